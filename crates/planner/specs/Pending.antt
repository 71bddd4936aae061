-- What a planner holds between two calls, and what a seek answered.
use Rattle.std.specs.Prelude.{◌≡◌, ℕ, ◌<◌, List, length, Some, None, Ok, Err, Option, Result}
use Rattle.search.specs.declared.refusal.SeekRefusal.{SeekRefusal}
use Rattle.search.specs.Calls.{Held, Answer, costs, no_route, refused}
use Rattle.search.specs.Members.{In}
use Rattle.search.specs.Rows.{Row}
use Rattle.listing.specs.Handing.{Falling, Ready, to_come, keys_in, parents_in}
use Rattle.listing.specs.Sinks.{Joined}
use Rattle.planner.specs.Standing.{Standing, capacity_of}

-- the routes that are to come, by these rows and sinks
abbrev pub pending_of : Standing → (sinks : List ℕ) → List (List ℕ)
pending_of f sinks = to_come (keys_in f.rows) (parents_in f.rows) f.left sinks

-- what is held: the capacity, and the routes that are still to be handed out
abbrev pub held_of : Standing → Joined → Held
held_of f s = record { capacity = capacity_of f; pending = pending_of f s.sinks }

-- the hand-outs can begin, or go on, by these rows and sinks
abbrev pub IsReady : Standing → (sinks : List ℕ) → Type 0
IsReady f sinks = Ready (parents_in f.rows) f.left sinks

-- what every call of a planner keeps: memory for as many rows in each part, and hand-outs that can go on
pub record IsPlanner (f : Standing) (s : Joined) (heap queues tries : ℕ) : Type 0 where
  pub ready : IsReady f s.sinks
  pub heap_rows : heap ≡ f.room
  pub queue_rows : queues ≡ f.room
  pub tried_rows : tries ≡ f.room
  pub places : s.places ≡ f.room

-- what a seek answered
abbrev pub answer_of : {C : Type 0} → (C → ℕ) → Result (Option C) SeekRefusal → Answer
answer_of weight (Ok (Some c)) = costs (weight c)
answer_of weight (Ok None) = no_route
answer_of weight (Err e) = refused e

-- the end of astar_bag: the sinks are among these rows, from which chains of parents end
abbrev pub BagEndsWell : {C : Type 0} → List Row → (sinks : List ℕ) → Result (Option C) SeekRefusal → Type 0
BagEndsWell rows sinks (Ok (Some c)) = ((s : ℕ) → In s sinks → s < length rows) × Falling (parents_in rows)
BagEndsWell rows sinks (Ok None) = Unit {0}
BagEndsWell rows sinks (Err e) = Unit {0}
