-- fringe: rows are taken from the front of a queue within a limit, pass by pass, each with a higher limit.
use Rattle.std.specs.Prelude.{ℕ, ◌+◌, Bool, true, false, not, List, [], ◌∷◌, ◌++◌, None, Result, Ok, ◌==◌, nat_lt, min, slice_index_or}
use Rattle.std.specs.List.{filter}
use Rattle.kinds.specs.Kind.{Kind}
use Rattle.graph.specs.Meaning.{Meaning}
use Rattle.search.specs.declared.refusal.SeekRefusal.{SeekRefusal}
use Rattle.search.specs.declared.refusal.SeekRefusal.TheVariants.{NoSum}
use Rattle.search.specs.Capacity.{Capacity}
use Rattle.search.specs.Outcome.{none, found, stopped}
use Rattle.search.specs.Ends.{Turned, more, done, turned}
use Rattle.search.specs.Rows.{Row, no_row, routes_to}
use Rattle.search.specs.Roads.{State, Open, one, started, follow}

-- two queues of rows, the limit of this pass, and the least sum above it that was met
pub record Fringe : Type 0 where
  pub now : List ℕ
  pub later : List ℕ
  pub limit : ℕ
  pub least : ℕ

-- the same without row j
abbrev pub without : ℕ → List ℕ → List ℕ
without j js = filter (λ i. not (i == j)) js

-- a row leaves its queue and goes to the front of now
abbrev pub to_front : Open → ℕ → Fringe → Result Fringe SeekRefusal
to_front road j f = Ok (record f { now = j ∷ without j f.now; later = without j f.later })

module _ (K : Kind) (M : Meaning) (guess : ℕ → ℕ) (cap : Capacity) where
  -- now is empty: what was left for later is next, within the least sum that was met, or nothing waits
  unfoldable pub passed : List ℕ → State Fringe → Turned (State Fringe)
  passed [] s = done none
  passed (j ∷ js) s =
      more (record s { waits = record { now = j ∷ js; later = []; limit = s.waits.least; least = K.greatest } })

  -- row i, which was taken from the front of now, is a goal or not
  unfoldable pub within : (goal : Bool) → ℕ → State Fringe → Turned (State Fringe)
  within true i s = done (found (slice_index_or s.rows i no_row).cost (routes_to s.rows i))
  within false i s = turned (follow K M cap one to_front i s)

  -- its sum with the guess is over the limit, and row i is left for later, or it is not
  unfoldable pub limited : (over : Bool) → (i sum : ℕ) → State Fringe → Turned (State Fringe)
  limited true i sum s =
      let f = s.waits in
      more (record s { waits = record f { later = f.later ++ i ∷ []; least = min f.least sum } })
  limited false i sum s = within (M.goal (slice_index_or s.rows i no_row).key) i s

  -- its sum with the guess fits or not
  unfoldable pub summed : (fits : Bool) → ℕ → Row → State Fringe → Turned (State Fringe)
  summed true i r s = limited (nat_lt s.waits.limit (r.cost + guess r.key)) i (r.cost + guess r.key) s
  summed false i r s = done (stopped (NoSum i None))

  -- one turn, by the front of now
  unfoldable pub fringe : (now : List ℕ) → State Fringe → Turned (State Fringe)
  fringe [] s = passed s.waits.later s
  fringe (i ∷ is) s =
      let r = slice_index_or s.rows i no_row in
      let f = s.waits in
      summed (K.fits r.cost (guess r.key)) i r (record s { waits = record f { now = is } })

  -- the first limit is the start's guess
  abbrev pub begin : ℕ → State Fringe
  begin start = started start (record { now = 0 ∷ []; later = []; limit = guess start; least = K.greatest })
