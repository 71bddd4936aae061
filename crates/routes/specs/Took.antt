-- What a seek took into the room for its route.
use Rattle.std.specs.Prelude.{◌≡◌, ℕ, ◌≤◌, List, map, take, drop, Some, None, Ok, Err, Option, Result}
use Rattle.routes.specs.declared.taken.Taken.{Taken}
use Rattle.routes.specs.declared.refusal.RouteRefusal.{RouteRefusal}
use Rattle.routes.specs.Came.{Came}

abbrev pub Took : Type 0 → Type 0
Took C = Result (Option (Taken C)) RouteRefusal

-- what came of it, with the keys that were written
abbrev pub came_in : {N C : Type 0} → (N → ℕ) → (C → ℕ) → Took C → (room : List N) → Came
came_in key weight (Ok (Some t)) room = Ok (Some (record { keys = map key (take t.length room); cost = weight t.cost }))
came_in key weight (Ok None) room = Ok None
came_in key weight (Err e) room = Err e

-- the length is one of entries that are there, so that it is the number of keys written
abbrev pub Within : {C : Type 0} → Took C → (room : ℕ) → Type 0
Within (Ok (Some t)) room = t.length ≤ room
Within (Ok None) room = Unit {0}
Within (Err e) room = Unit {0}

-- the entries beyond the route stay, and all of them where no route was written
abbrev pub Untouched : {N C : Type 0} → Took C → (before after : List N) → Type 0
Untouched (Ok (Some t)) before after = drop t.length after ≡ drop t.length before
Untouched (Ok None) before after = after ≡ before
Untouched (Err e) before after = after ≡ before
