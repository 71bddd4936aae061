use Rattle.std.proofs.Common.{◌≡◌, ◌+◌, ◌-◌, arith}
use Rattle.store.proofs.Seats.{rows_differ}
use Rattle.store.proofs.Turns.{queue_none, popped, top_out}
use Rattle.store.proofs.places.Places.take_first.Goals as goal

pub returns-then-self-eq0-clause-first : goal.returns-then-self-eq0-clause-first
returns-then-self-eq0-clause-first g c = rw (← c.self.view_is, c.if-self-eq0.true, queue_none)

pub drop_first-requires : goal.drop_first-requires
drop_first-requires g c =
    let n = c.self.inside.len in
    let q : n - 1 + 1 ≡ n = omega (arith, c.if-self-eq0.false) in
    record { kept = rw q c.self.invariant; heap = rw q (rw (← c.self.view_is) at c.requires.heaped) }

pub invariant_of-self : goal.invariant_of-self
invariant_of-self g c = c.drop_first.ensures.kept

pub returns : goal.returns
returns g c =
    let xs = c.self.inside.slots.now in
    let n = c.self.inside.len in
    let k = c.self.invariant in
    let d = c.index-self-0.result in
    let a = rw (← c.self.view_is) at c.requires.apart in
    let h = rw (← c.self.view_is) at c.requires.heaped in
    let q : n - 1 + 1 ≡ n = omega (arith, c.if-self-eq0.false) in
    let o = popped _ _ _ a (rows_differ xs n k.fits k.placed) (rw q at (c.drop_first.ensures.taken d)) in
    rw (← c.self.view_is) record {
      sound = λ b co. record { apart = o.apart; counted = o.counted b co; heaped = c.drop_first.ensures.heap };
      first = top_out g.C.CostKind.weight xs n d (omega (arith, c.if-self-eq0.false)) k.fits a h;
      queue = o.queued;
      size = o.size;
      inside = (k.placed 0 d (omega (arith, c.if-self-eq0.false))).0;
      few = k.few;
      rows = c.drop_first.ensures.long;
    }
