-- astar_bag: the first out of the heap is taken, up to one past the cost of the goals.
use Rattle.std.specs.Prelude.{ℕ, Bool, true, false, List, [], ◌∷◌, ◌++◌, Option, Some, None, Result, Ok, if◌then◌else◌, nat_lt, slice_index_or}
use Rattle.kinds.specs.Kind.{Kind}
use Rattle.graph.specs.Meaning.{Meaning}
use Rattle.search.specs.declared.refusal.SeekRefusal.{SeekRefusal}
use Rattle.search.specs.Members.{has}
use Rattle.search.specs.Outcome.{Outcome, none, found}
use Rattle.search.specs.Capacity.{Capacity}
use Rattle.search.specs.Ends.{and_then, Turned, done, turned}
use Rattle.search.specs.Rows.{Row, no_row, latest_first, routes_to}
use Rattle.search.specs.Roads.{State, all, follow}
use Rattle.search.specs.Queue.{Entry, without}
use Rattle.search.specs.Best as best
use Rattle.search.specs.Best.{by_guess, push}

-- a search by a heap, the goals that were taken, and the cost of the last one
pub record Bag : Type 0 where
  pub search : State (List Entry)
  pub sinks : List ℕ
  pub cost : Option ℕ

-- these goals with row i, if absent
abbrev pub joined : ℕ → List ℕ → List ℕ
joined i js = if has i js then js else js ++ i ∷ []

-- an estimate is past the cost of the last goal, if there is one
abbrev pub is_past : Option ℕ → ℕ → Bool
is_past None estimate = false
is_past (Some c) estimate = nat_lt c estimate

-- what is found are all routes to the goals that were taken, the latest goal first
abbrev pub ended : Option ℕ → List Row → List ℕ → Outcome
ended None rows sinks = none
ended (Some c) rows sinks = found c (latest_first (routes_to rows) sinks)

-- row i, which costs c, was taken: a goal or not
abbrev pub noted : (goal : Bool) → (i c : ℕ) → Bag → Bag
noted goal i c b = record b { sinks = if goal then joined i b.sinks else b.sinks; cost = if goal then Some c else b.cost }

module _ (K : Kind) (M : Meaning) (guess : ℕ → ℕ) (cap : Capacity) where
  -- row i leaves the heap, and its roads are followed
  abbrev pub followed : ℕ → Bag → Result Bag SeekRefusal
  followed i b =
      let out : State (List Entry) = record b.search { waits = without i b.search.waits } in
      and_then (follow K M cap all (push (by_guess K guess)) i out) (λ s. Ok (record b { search = s }))

  -- row i is the first out, and past the cost or not
  unfoldable pub taken : (past : Bool) → ℕ → Row → Bag → Turned Bag
  taken true i r b = done (ended b.cost b.search.rows b.sinks)
  taken false i r b = turned (followed i (noted (M.goal r.key) i r.cost b))

  -- one turn, by the first out
  unfoldable pub bag : Option Entry → Bag → Turned Bag
  bag None b = done (ended b.cost b.search.rows b.sinks)
  bag (Some e) b = taken (is_past b.cost e.estimate) e.row (slice_index_or b.search.rows e.row no_row) b

-- no goal was taken
abbrev pub begin : ℕ → Bag
begin start = record { search = best.begin start; sinks = []; cost = None }
