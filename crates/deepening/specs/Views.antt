-- What memory stands for.
use Rattle.std.specs.Prelude.{◌≡◌, ℕ, suc, ◌<◌, ◌≤◌, List, [], ◌∷◌, ◌++◌, map, length, Some, None, Ok, Err, Option, Result, slice_index_or, slice_set}
use Rattle.std.specs.declared.ops.ControlFlow.{ControlFlow}
use Rattle.std.specs.declared.ops.ControlFlow.TheVariants.{Continue, Break}
use Rattle.store.specs.Registers.{Listing}
use Rattle.search.specs.declared.refusal.SeekRefusal.{SeekRefusal}
use Rattle.search.specs.Outcome.{Outcome, stopped, none, found}
use Rattle.search.specs.Ends.{Turned, more, done}
use Rattle.search.specs.Deepening.{Path, Try}
use Rattle.search.specs.Loop.{State}
use Rattle.search.specs.Scan.{Left, untried, last, Row, no_row}
use Rattle.deepening.specs.Trails.{Trail}
use Rattle.deepening.specs.declared.tries.Tried.{Tried}
use Rattle.deepening.specs.declared.tries.Tried.TheVariants.{Nothing, UpTo}
use Rattle.deepening.specs.declared.pass.Pass.{Pass}
use Rattle.deepening.specs.declared.roads.Road.{Road}
use Rattle.deepening.specs.declared.path.End.{End}

abbrev pub left_of : Tried → Left
left_of Nothing = untried
left_of (UpTo rank) = last rank

abbrev pub noted_of : {C : Type 0} → (C → ℕ) → Option C → Option ℕ
noted_of weight None = None
noted_of weight (Some c) = Some (weight c)

module _ {N C : Type 0} (key : N → ℕ) (weight : C → ℕ) where
  abbrev pub try_of : Road N C → Try
  try_of r = record { rank = r.rank; key = key r.node; weight = weight r.weight; order = weight r.order }

  abbrev pub best_of : Option (Road N C) → Option Try
  best_of None = None
  best_of (Some r) = Some (try_of r)

  abbrev pub next_of : Result (Option (Road N C)) SeekRefusal → Result (Option Try) SeekRefusal
  next_of (Ok o) = Ok (best_of o)
  next_of (Err e) = Err e

  abbrev pub row_of : N × C → Left → Row
  row_of x l = record { key = key x.0; cost = weight x.1; left = l }

  -- the rows of a path, each with what is left to be tried of it
  abbrev pub rows_of : List (N × C) → List Left → List Row
  rows_of [] ls = []
  rows_of (x ∷ xs) [] = row_of x untried ∷ rows_of xs []
  rows_of (x ∷ xs) (l ∷ ls) = row_of x l ∷ rows_of xs ls

  -- the state of the search
  abbrev pub state_of : Listing N C → Trail → Pass C → State (List Row)
  state_of r t p = record { path = rows_of r.listed t.lefts; bound = weight p.bound; noted = noted_of weight p.noted }

  -- the keys of a path
  abbrev pub nodes_of : List (N × C) → List ℕ
  nodes_of xs = map (λ x. key x.0) xs

  -- the path with these nodes and this end
  abbrev pub path_of : List (N × C) → End N C → Path
  path_of xs e = record { keys = nodes_of xs; last = e.row; key = key e.node; cost = weight e.cost }

  -- and with one node more
  abbrev pub path_on : List (N × C) → N → C → Path
  path_on xs n c = record { keys = nodes_of xs ++ key n ∷ []; last = length xs; key = key n; cost = weight c }

  -- the end of the path
  pub record IsEnd (e : End N C) (r : Listing N C) (t : Trail) : Type 0 where
    pub last : length r.listed ≡ suc e.row
    pub row : slice_index_or (rows_of r.listed t.lefts) e.row no_row ≡ record { key = key e.node; cost = weight e.cost; left = left_of e.tried }

  -- what a turn answered, with what it left
  abbrev pub turn_of : Result (ControlFlow (Option C) (Unit {0})) SeekRefusal → Listing N C → Trail → Pass C → Turned (State (List Row))
  turn_of (Ok (Continue u)) r t p = more (state_of r t p)
  turn_of (Ok (Break None)) r t p = done none
  turn_of (Ok (Break (Some c))) r t p = done (found (weight c) (nodes_of r.listed ∷ []))
  turn_of (Err e) r t p = done (stopped e)

  -- what a search answered, with the path that it left
  abbrev pub outcome_of : Result (Option C) SeekRefusal → Listing N C → Outcome
  outcome_of (Ok None) r = none
  outcome_of (Ok (Some c)) r = found (weight c) (nodes_of r.listed ∷ [])
  outcome_of (Err e) r = stopped e

-- each row in use has what was tried of it
pub record IsPaired {N C : Type 0} (r : Listing N C) (t : Trail) : Type 0 where
  pub as_many : length r.listed ≡ length t.lefts
  pub fits : length r.listed ≤ r.room
  pub some : 0 < r.room
  pub room : r.room ≤ t.room

-- the state where a road of a rank is on the way from the end of the path
abbrev pub on_way : State (List Row) → (i key cost rank : ℕ) → State (List Row)
on_way s i key cost rank = record { path = slice_set s.path i (record { key = key; cost = cost; left = last rank }); bound = s.bound; noted = s.noted }
