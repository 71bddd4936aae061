-- What the turns of a search by a heap answer.
use Rattle.std.specs.Prelude.{◌≡◌, ℕ, ◌<◌, List, length, Some, None, Ok, Err, Option, Result}
use Rattle.std.specs.declared.ops.ControlFlow.{ControlFlow}
use Rattle.std.specs.declared.ops.ControlFlow.TheVariants.{Continue, Break}
use Rattle.search.specs.declared.refusal.SeekRefusal.{SeekRefusal}
use Rattle.search.specs.Rows.{Row, routes_to}
use Rattle.search.specs.Roads.{State}
use Rattle.search.specs.Outcome.{Outcome, stopped, none, found}
use Rattle.search.specs.Ends.{Turned, more, done}
use Rattle.listing.specs.Handing.{Falling, parents_in}
use Rattle.planner.specs.Standing.{Standing}
use Rattle.planner.specs.declared.goal.Goal.{Goal}

-- a search that ended: at a goal, whose row and cost these are, or at none
abbrev pub ending : {C : Type 0} → (C → ℕ) → Option (Goal C) → List Row → Outcome
ending weight (Some x) rows = found (weight x.cost) (routes_to rows x.row)
ending weight None rows = none

-- what a turn answered, with the state that it left
abbrev pub turned_of : {C W : Type 0} → (C → ℕ) → Result (ControlFlow (Option (Goal C)) (Unit {0})) SeekRefusal → State W → Turned (State W)
turned_of weight (Ok (Continue u)) s = more s
turned_of weight (Ok (Break o)) s = done (ending weight o s.rows)
turned_of weight (Err e) s = done (stopped e)

-- what all turns came to, with the rows that they left
abbrev pub end_of : {C : Type 0} → (C → ℕ) → Result (Option (Goal C)) SeekRefusal → List Row → Outcome
end_of weight (Ok o) rows = ending weight o rows
end_of weight (Err e) rows = stopped e

-- the goal's row is one of the first n
abbrev pub IsGoalIn : {C : Type 0} → ℕ → Option (Goal C) → Type 0
IsGoalIn n (Some x) = x.row < n
IsGoalIn n None = Unit {0}

-- a turn that is the last leaves the rows as they were
abbrev pub IsBrokenIn : {C : Type 0} → Standing → Standing → Result (ControlFlow (Option (Goal C)) (Unit {0})) SeekRefusal → Type 0
IsBrokenIn f f' (Ok (Continue u)) = Unit {0}
IsBrokenIn f f' (Ok (Break o)) = (f' ≡ f) × IsGoalIn (length f.rows) o
IsBrokenIn f f' (Err e) = Unit {0}

-- a search that was not refused: a goal's row is one of these, in which a rank falls from each row to its parents
abbrev pub EndsWell : {C : Type 0} → List Row → Result (Option (Goal C)) SeekRefusal → Type 0
EndsWell rows (Ok (Some x)) = (x.row < length rows) × Falling (parents_in rows)
EndsWell rows (Ok None) = Unit {0}
EndsWell rows (Err e) = Unit {0}
