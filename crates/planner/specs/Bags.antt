-- What the turns of astar_bag answer, and what they leave.
use Rattle.std.specs.Prelude.{◌≡◌, ℕ, List, Ok, Err, Option, Result, option_map}
use Rattle.std.specs.declared.ops.ControlFlow.{ControlFlow}
use Rattle.std.specs.declared.ops.ControlFlow.TheVariants.{Continue, Break}
use Rattle.store.specs.Heaps.{Waits}
use Rattle.search.specs.declared.refusal.SeekRefusal.{SeekRefusal}
use Rattle.search.specs.Outcome.{Outcome, stopped}
use Rattle.search.specs.Ends.{Turned, more, done}
use Rattle.search.specs.Rows.{Row}
use Rattle.search.specs.Bag.{Bag, ended}
use Rattle.planner.specs.Standing.{Standing, state_of}
use Rattle.planner.specs.Entries.{entries_of}

-- the search by these rows and this heap, the sinks, and the cost of the last one
abbrev pub bag_of : {C : Type 0} → (C → ℕ) → Standing → Waits C → List ℕ → Option C → Bag
bag_of weight f h sinks cost =
    record { search = state_of f (entries_of weight h); sinks = sinks; cost = option_map weight cost }

-- what a turn answered, with what it left: the cost of the last sink, where the search goes on
abbrev pub bag_turned : {C : Type 0} → (C → ℕ) → Option C → Result (ControlFlow (Unit {0}) (Option C)) SeekRefusal → Standing → Waits C → List ℕ → Turned Bag
bag_turned weight cost (Ok (Continue c)) f h sinks = more (bag_of weight f h sinks c)
bag_turned weight cost (Ok (Break u)) f h sinks = done (ended (option_map weight cost) f.rows sinks)
bag_turned weight cost (Err e) f h sinks = done (stopped e)

-- what all turns came to, with the rows and the sinks that they left
abbrev pub bag_end : {C : Type 0} → (C → ℕ) → Result (Option C) SeekRefusal → List Row → List ℕ → Outcome
bag_end weight (Ok cost) rows sinks = ended (option_map weight cost) rows sinks
bag_end weight (Err e) rows sinks = stopped e

-- a turn that is the last leaves rows and sinks as they were
abbrev pub IsLastIn : {C : Type 0} → Standing → (sinks : List ℕ) → Standing → (sinks' : List ℕ) → Result (ControlFlow (Unit {0}) (Option C)) SeekRefusal → Type 0
IsLastIn f sinks f' sinks' (Ok (Continue c)) = Unit {0}
IsLastIn f sinks f' sinks' (Ok (Break u)) = (f' ≡ f) × (sinks' ≡ sinks)
IsLastIn f sinks f' sinks' (Err e) = Unit {0}
