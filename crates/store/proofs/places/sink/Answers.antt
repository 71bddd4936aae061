use Rattle.std.proofs.Common.{◌≤◌, length, ◌∙◌, arith}
use Rattle.std.proofs.lemmas.List.Sorted.{IsPermutation-trans}
use Rattle.store.proofs.Seats.{at_any}
use Rattle.store.proofs.Holes.{length_filled, went_down}
use Rattle.store.proofs.places.sink.Goals as goal

pub seat-requires : goal.seat-requires
seat-requires g c =
    let v = c.loop-h.invariant in
    let b = c.best_child-child.ensures in
    record {
      i_in = omega (arith, v.inside, v.long, c.requires.fits);
      row_in = (v.hole _ c.index-slots-child.result b.inside (λ q. omega (arith, b.child.0))).0;
      few = omega (arith, v.inside, v.long, c.requires.fits, c.requires.few);
    }

pub loop-h-preserved : goal.loop-h-preserved
loop-h-preserved g c =
    let w = g.C.CostKind.weight in
    let v = c.loop-h.invariant in
    let xs = c.loop-h.slots in
    let s = c.seat.ensures in
    let b = c.best_child-child.ensures in
    let k = c.best_child-child.result in
    let ln : c.args.len ≤ length xs = omega (arith, c.requires.fits, v.long) in
    let own = at_any xs k c.index-slots-child.result (omega (arith, b.inside)) in
    let u = went_down w xs c.args.len c.loop-h.h k c.args.entry ln own v.hole v.loose s b.child b.inside b.best in
    record { inside = b.inside; hole = u.hole; loose = u.loose; same = IsPermutation-trans _ _ _ v.same u.same; long = s.long ∙ v.long }

pub settle-requires : goal.settle-requires
settle-requires g c =
    let v = c.loop-h.invariant in
    let xs = c.loop-h.slots in
    let ln : c.args.len ≤ length xs = omega (arith, c.requires.fits, v.long) in
    record {
      inside = v.inside;
      fits = ln;
      few = omega (arith, c.requires.few, v.long);
      row_in = omega (arith, c.requires.row_in, v.long);
      hole = v.hole;
      loose = v.loose;
      over = λ d i ci li. absurd (omega (arith, ci.0, c.loop-h-test.false, length_filled xs c.args.len c.loop-h.h c.args.entry ln));
    }

pub returns : goal.returns
returns g c =
    let v = c.loop-h.invariant in
    let r = c.settle.ensures in
    record { heap = r.heap; kept = r.kept; same = IsPermutation-trans _ _ _ v.same r.same; long = r.long ∙ v.long }
