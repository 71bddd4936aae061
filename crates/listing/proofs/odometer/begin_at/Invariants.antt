use Rattle.std.proofs.Common.{◌≡◌, length}
use Rattle.listing.specs.Handing.{par, begun}
use Rattle.listing.proofs.Walks.{Beginning}
use Rattle.listing.proofs.odometer.begin_at.Given as goal

abbrev pub invariant-loop-step : goal.invariant-loop-step
invariant-loop-step l =
    let v = l.initial.parents in
    let w = l.parents in
    (w.lists ≡ v.lists) × (w.room ≡ v.room) × (w.rows ≡ v.rows) × (w.keeps ≡ v.keeps)
    × Beginning (par v.lists) (begun v l.sink).left (length v.lists) l.step l.row w.left
