use Rattle.std.proofs.Common.{arith}
use Rattle.store.proofs.Turns.{new_at}
use Rattle.store.proofs.places.Places.put_new.Goals as goal

pub settle-requires : goal.settle-requires
settle-requires g c =
    let a = new_at g.C.CostKind.weight c.args.entry c.self.view_is c.self.invariant c.requires.row_in c.requires.sound c.requires.fresh in
    record { inside = omega arith; fits = a.fits; few = c.self.invariant.few; row_in = a.row_in; hole = a.hole; loose = a.loose; over = a.over }

pub invariant_of-self : goal.invariant_of-self
invariant_of-self g c = c.settle.ensures.kept

pub returns : goal.returns
returns g c =
    let a = new_at g.C.CostKind.weight c.args.entry c.self.view_is c.self.invariant c.requires.row_in c.requires.sound c.requires.fresh in
    let q = a.after _ c.settle.ensures.same in
    record { sound = record { apart = q.apart; counted = q.counted; heaped = c.settle.ensures.heap }; queue = q.queued; rows = rw (← c.self.view_is) c.settle.ensures.long }
