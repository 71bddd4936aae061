use Rattle.std.proofs.Common.{length}
use Rattle.links.specs.Listings.{at}
use Rattle.listing.specs.Handing.{par, route, next_turn}
use Rattle.listing.proofs.Walks.{Turning, Measuring}
use Rattle.listing.proofs.odometer.survey.Given as goal

-- what is found from the row on, or else the best so far, is the answer; and so many rows are behind
abbrev pub invariant-loop-step : goal.invariant-loop-step
invariant-loop-step l =
    let v = l.parents in
    let n = length v.lists in
    Turning (par v.lists) (at v.left) (next_turn v.lists v.left l.sink) n l.step l.row l.best
    × Measuring (par v.lists) (at v.left) (length (route v.lists v.left l.sink)) n l.step l.row
