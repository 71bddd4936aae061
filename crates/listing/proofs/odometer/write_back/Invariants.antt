use Rattle.std.proofs.Common.{◌≡◌, ℕ, List, map, length, drop}
use Rattle.links.specs.Listings.{at}
use Rattle.listing.specs.Handing.{par, route, keyed}
use Rattle.listing.proofs.Walks.{Writing}
use Rattle.listing.proofs.odometer.write_back.Given as goal

-- what is written from this place on is the end of the route
abbrev pub invariant-loop-place : goal.invariant-loop-place
invariant-loop-place g l =
    let v = l.parents in
    (acc : List ℕ)
    × (map g.N.NodeKind.key (drop l.place l.out) ≡ keyed g.N.NodeKind.key l.rows acc)
    × Writing (par v.lists) (at v.left) (route v.lists v.left l.sink) (length v.lists) l.place l.row acc
