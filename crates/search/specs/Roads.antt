-- One road after another of a row that was taken: for every search but idastar, whatever it is that waits.
use Rattle.std.specs.Prelude.{ℕ, zero, suc, ◌+◌, Bool, false, List, [], ◌∷◌, ◌++◌, length, Option, Some, None, Result, Ok, Err, if◌then◌else◌, ◌==◌, nat_lt, nat_le, slice_index_or, slice_set}
use Rattle.std.specs.Ordering.{nat_cmp}
use Rattle.std.specs.declared.cmp.Ordering.{Ordering}
use Rattle.std.specs.declared.cmp.Ordering.TheVariants.{Less, Equal, Greater}
use Rattle.kinds.specs.Kind.{Kind}
use Rattle.graph.specs.Meaning.{Road, opened, closed, faulty, Meaning}
use Rattle.search.specs.declared.refusal.SeekRefusal.{SeekRefusal}
use Rattle.search.specs.declared.refusal.SeekRefusal.TheVariants.{FaultyRoad, ZeroWeight, NoSum, NoRow, NoLink}
use Rattle.search.specs.Members.{has}
use Rattle.search.specs.Capacity.{Capacity}
use Rattle.search.specs.Ends.{and_then}
use Rattle.search.specs.Rows.{Row, no_row, find, links_in}

-- the rows, and what waits
pub record State (W : Type 0) : Type 0 where
  pub rows : List Row
  pub waits : W

-- an open road: the row that it leaves, its rank, the key that it leads to, and the sum of costs there
pub record Open : Type 0 where
  pub row : ℕ
  pub rank : ℕ
  pub key : ℕ
  pub sum : ℕ

-- one parent for each row; or, in links, all parents that reach it at the same cost
pub data Keeps : Type 0 where
  one : Keeps
  all : Keeps

-- the start takes row 0 at cost zero
abbrev pub started : {W : Type 0} → ℕ → W → State W
started start w = record { rows = record { key = start; cost = 0; parents = [] } ∷ []; waits = w }

-- the row of a road's end, as it is reached by this road
abbrev pub from_here : Open → Row
from_here road = record { key = road.key; cost = road.sum; parents = road.row ∷ [] }

-- the same row with row i as a parent too
abbrev pub with_parent : Row → (i : ℕ) → Row
with_parent r i = record { key = r.key; cost = r.cost; parents = r.parents ++ i ∷ [] }

-- these rows, if there are links for their parents
abbrev pub linked : Capacity → Keeps → Open → List Row → Result (List Row) SeekRefusal
linked cap one road rows = Ok rows
linked cap all road rows = if nat_le (links_in rows) cap.links then Ok rows else Err (NoLink road.row road.rank)

-- where all parents are kept each road has to weigh something
abbrev pub is_weightless : Keeps → ℕ → Bool
is_weightless one w = false
is_weightless all w = w == 0

module _ {W : Type 0} (K : Kind) (M : Meaning) (cap : Capacity) (keeps : Keeps)
    (enter : Open → (row : ℕ) → W → Result W SeekRefusal) where
  -- a row that was made or cheapened, row j of these, enters what waits
  abbrev pub entered : Open → (j : ℕ) → List Row → W → Result (State W) SeekRefusal
  entered road j rows w =
      and_then (linked cap keeps road rows) (λ rows. and_then (enter road j w) (λ w. Ok (record { rows = rows; waits = w })))

  -- an equal sum: the row is a parent too, if absent
  abbrev pub tied : Keeps → Open → (j : ℕ) → Row → State W → Result (State W) SeekRefusal
  tied one road j r s = Ok s
  tied all road j r s =
      let rows : List Row = slice_set s.rows j (with_parent r road.row) in
      if has road.row r.parents then Ok s
      else and_then (linked cap all road rows) (λ rows. Ok (record { rows = rows; waits = s.waits }))

  -- the sum is less than what row j costs, or equal, or greater
  abbrev pub compared : Ordering → Open → (j : ℕ) → Row → State W → Result (State W) SeekRefusal
  compared Less road j r s = entered road j (slice_set s.rows j (from_here road)) s.waits
  compared Equal road j r s = tied keeps road j r s
  compared Greater road j r s = Ok s

  -- the key of the road's end has no row yet, or row j
  abbrev pub arrived : Option ℕ → Open → State W → Result (State W) SeekRefusal
  arrived None road s =
      if nat_lt (length s.rows) cap.rows then entered road (length s.rows) (s.rows ++ from_here road ∷ []) s.waits
      else Err (NoRow road.row road.rank)
  arrived (Some j) road s = let r = slice_index_or s.rows j no_row in compared (nat_cmp road.sum r.cost) road j r s

  -- the road of a rank of row i, whose cost is c
  unfoldable pub relax : (i c rank : ℕ) → Road → State W → Result (State W) SeekRefusal
  relax i c rank closed s = Ok s
  relax i c rank (faulty f) s = Err (FaultyRoad i f)
  relax i c rank (opened k w) s =
      let road : Open = record { row = i; rank = rank; key = k; sum = c + w } in
      if is_weightless keeps w then Err (ZeroWeight i rank)
      else (if K.fits c w then arrived (find k s.rows) road s else Err (NoSum i (Some rank)))

  -- the roads of row i from a rank on
  unfoldable pub along : (i : ℕ) → Row → (left rank : ℕ) → State W → Result (State W) SeekRefusal
  along i r zero rank s = Ok s
  along i r (suc left) rank s = and_then (relax i r.cost rank (M.road r.key rank) s) (along i r left (rank + 1))

  -- all roads of row i
  abbrev pub follow : ℕ → State W → Result (State W) SeekRefusal
  follow i s = let r = slice_index_or s.rows i no_row in along i r (M.count r.key) 0 s
