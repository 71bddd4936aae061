use Rattle.std.proofs.Common.{◌-◌, ◌/◌, ◌≤◌, length, ◌∙◌, arith}
use Rattle.std.proofs.lemmas.List.Sorted.{IsPermutation-trans}
use Rattle.store.specs.Slots.{IsChild}
use Rattle.store.proofs.Seats.{at_any}
use Rattle.store.proofs.Sifts.{in_order}
use Rattle.store.proofs.Holes.{filled_under, went_up}
use Rattle.store.proofs.places.rise.Goals as goal

pub returns-then-comes_before-clause-heap : goal.returns-then-comes_before-clause-heap
returns-then-comes_before-clause-heap g c =
    let w = g.C.CostKind.weight in
    let v = c.loop-h.invariant in
    let xs = c.loop-h.slots in
    let h = c.loop-h.h in
    let up = (h - 1) / 2 in
    let ln : c.args.len ≤ length xs = omega (arith, c.requires.fits, v.long) in
    let child : IsChild up h = (omega (arith, c.loop-h-test.true), omega (arith, c.loop-h-test.true)) in
    let own = at_any xs up c.index-slots-up.result (omega (arith, v.inside, ln)) in
    in_order w _ h (filled_under w xs c.args.len h up c.args.entry ln own child v.inside c.if-comes_before.ensures) v.loose v.over

pub seat-requires : goal.seat-requires
seat-requires g c =
    let v = c.loop-h.invariant in
    record {
      i_in = omega (arith, v.inside, v.long, c.requires.fits);
      row_in = (v.hole _ c.index-slots-up.result (omega (arith, v.inside)) (λ q. omega (arith, c.loop-h-test.true))).0;
      few = omega (arith, v.inside, v.long, c.requires.fits, c.requires.few);
    }

pub loop-h-preserved : goal.loop-h-preserved
loop-h-preserved g c =
    let w = g.C.CostKind.weight in
    let v = c.loop-h.invariant in
    let xs = c.loop-h.slots in
    let h = c.loop-h.h in
    let up = (h - 1) / 2 in
    let s = c.seat.ensures in
    let ln : c.args.len ≤ length xs = omega (arith, c.requires.fits, v.long) in
    let child : IsChild up h = (omega (arith, c.loop-h-test.true), omega (arith, c.loop-h-test.true)) in
    let own = at_any xs up c.index-slots-up.result (omega (arith, v.inside, ln)) in
    let u = went_up w xs c.args.len h up c.args.entry ln own v.hole v.loose s child v.inside c.if-comes_before.ensures in
    record {
      inside = omega (arith, v.inside);
      hole = u.hole;
      loose = u.loose;
      over = u.over;
      same = IsPermutation-trans _ _ _ v.same u.same;
      long = s.long ∙ v.long;
    }

pub returns-clause-heap : goal.returns-clause-heap
returns-clause-heap g c =
    let v = c.loop-h.invariant in
    in_order g.C.CostKind.weight _ c.loop-h.h (λ d p cp. absurd (omega (arith, cp.0, c.loop-h-test.false))) v.loose v.over
