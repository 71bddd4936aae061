-- What a route says of a hand-out, and how it is printed.
use Rattle.std.specs.Prelude.{ℕ, List, [], ◌∷◌, codes, map, Some, None, Ok, Err, Option, Result}
use Rattle.std.specs.Fmt.{◌++?◌}
use Rattle.search.specs.declared.refusal.HandOutRefusal.{HandOutRefusal}
use Rattle.search.specs.Calls.{Given, gave, finished, denied}
use Rattle.routes.specs.declared.route.Route.{Route}

-- the keys of the route that was handed out
abbrev pub shown_of : {N : Type 0} → (N → ℕ) → Result (Option (Route N)) HandOutRefusal → Given
shown_of key (Ok (Some route)) = gave (map key route.nodes.now)
shown_of key (Ok None) = finished
shown_of key (Err e) = denied e

-- what is printed of a route: each node after a blank, where each node has a text
abbrev pub printed : {N : Type 0} → (N → Option (List ℕ)) → List N → Option (List ℕ)
printed text [] = Some []
printed text (node ∷ nodes) = Some (codes " ") ++? text node ++? printed text nodes
