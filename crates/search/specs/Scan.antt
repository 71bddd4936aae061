-- The path of idastar in rows: row k is its k-th node. Where there is room for them its roads are listed once, in order;
-- else the next one is found by a scan, after the one that was tried last.
use Rattle.std.specs.Prelude.{ℕ, zero, suc, ◌+◌, Bool, true, false, ◌&&◌, ◌||◌, List, [], ◌∷◌, ◌++◌, length, map, take, Option, Some, None, Result, Ok, Err, cond, ◌==◌, nat_lt, slice_index_or, slice_set}
use Rattle.kinds.specs.Kind.{Kind}
use Rattle.graph.specs.Meaning.{Meaning, Road, opened, closed, faulty}
use Rattle.search.specs.declared.refusal.SeekRefusal.{SeekRefusal}
use Rattle.search.specs.declared.refusal.SeekRefusal.TheVariants.{FaultyRoad, NoSum}
use Rattle.search.specs.Members.{has}
use Rattle.search.specs.Ends.{and_then}
use Rattle.search.specs.Deepening.{Path, Try, all_tries}
use Rattle.search.specs.Loop.{Next, nothing, refuses, back, tries, Keeping}

-- no road of a node was tried; or that of a rank was the last; or those of these ranks are still to be tried
pub data Left : Type 0 where
  untried : Left
  last : (rank : ℕ) → Left
  listed : (ranks : List ℕ) → Left

-- a node of the path: its key, the cost of the path up to it, and which of its roads are still to be tried
pub record Row : Type 0 where
  pub key : ℕ
  pub cost : ℕ
  pub left : Left

abbrev pub no_row : Row
no_row = record { key = 0; cost = 0; left = untried }

-- u comes after the road that was tried last
abbrev pub due : Option Try → Try → Bool
due None u = true
due (Some t) u = nat_lt t.order u.order || (t.order == u.order && nat_lt t.rank u.rank)

-- the earlier of two roads in order; of the same order the one of the earlier rank, which was looked at first
abbrev pub better : Option Try → Try → Option Try
better None u = Some u
better (Some t) u = cond (nat_lt u.order t.order) (Some u) (Some t)

-- after a scan: its road is tried, or there is none and the last row is taken back
abbrev pub picked : Result (Option Try) SeekRefusal → (i : ℕ) → Path → List Row → Next (List Row)
picked (Err r) i p rows = refuses r
picked (Ok None) i p rows = back (take i rows)
picked (Ok (Some t)) i p rows =
    tries p t (slice_set rows i (record { key = p.key; cost = p.cost; left = last t.rank }))

-- after a list: its first road is tried, and these ranks are left
abbrev pub from_road : Option Try → (ranks : List ℕ) → (i : ℕ) → Path → List Row → Next (List Row)
from_road None ranks i p rows = back (take i rows)
from_road (Some t) ranks i p rows =
    tries p t (slice_set rows i (record { key = p.key; cost = p.cost; left = listed ranks }))

-- the roads are listed, and the first is tried
abbrev pub from_all : Result (List Try) SeekRefusal → (i : ℕ) → Path → List Row → Next (List Row)
from_all (Ok []) i p rows = back (take i rows)
from_all (Ok (t ∷ ts)) i p rows = from_road (Some t) (map (λ t. t.rank) ts) i p rows
from_all (Err r) i p rows = refuses r

-- the path that these rows are, up to row i, the last
abbrev pub path_to : (i : ℕ) → List Row → Path
path_to i rows =
    let r = slice_index_or rows i no_row in
    record { keys = map (λ r. r.key) rows; last = i; key = r.key; cost = r.cost }

module _ (K : Kind) (M : Meaning) (guess : ℕ → ℕ) where
  -- the road of a rank to a key at a weight
  abbrev pub try_of : (rank k w : ℕ) → Try
  try_of rank k w = record { rank = rank; key = k; weight = w; order = w + guess k }

  -- a road that was found open before
  abbrev pub tried_road : (rank : ℕ) → Road → Option Try
  tried_road rank (opened k w) = cond (K.fits w (guess k)) (Some (try_of rank k w)) None
  tried_road rank closed = None
  tried_road rank (faulty f) = None

  -- a road back to the path is skipped, and of the others that are due the best is kept
  abbrev pub sifted : (known fits : Bool) → Path → Option Try → Try → Option Try → Result (Option Try) SeekRefusal
  sifted true fits p tried t best = Ok best
  sifted false true p tried t best = Ok (cond (due tried t) (better best t) best)
  sifted false false p tried t best = Err (NoSum p.last (Some t.rank))

  -- the road of a rank, with the best up to there
  abbrev pub look : Path → Option Try → (rank : ℕ) → Road → Option Try → Result (Option Try) SeekRefusal
  look p tried rank closed best = Ok best
  look p tried rank (faulty f) best = Err (FaultyRoad p.last f)
  look p tried rank (opened k w) best = sifted (has k p.keys) (K.fits w (guess k)) p tried (try_of rank k w) best

  -- the best road that is due, from a rank on
  unfoldable pub scan : Path → Option Try → (left rank : ℕ) → Option Try → Result (Option Try) SeekRefusal
  scan p tried zero rank best = Ok best
  scan p tried (suc left) rank best = and_then (look p tried rank (M.road p.key rank) best) (scan p tried left (rank + 1))

  -- row i by a scan after a road
  abbrev pub scanned : Option Try → (i : ℕ) → Path → List Row → Next (List Row)
  scanned tried i p rows = picked (scan p tried (M.count p.key) 0 None) i p rows

  -- row i by its list
  abbrev pub from_ranks : List ℕ → (i : ℕ) → Path → List Row → Next (List Row)
  from_ranks [] i p rows = back (take i rows)
  from_ranks (rank ∷ ranks) i p rows = from_road (tried_road rank (M.road p.key rank)) ranks i p rows

  -- row i
  abbrev pub from_left : (room : Bool) → Left → (i : ℕ) → Path → List Row → Next (List Row)
  from_left room (listed ranks) i p rows = from_ranks ranks i p rows
  from_left room (last rank) i p rows = scanned (tried_road rank (M.road p.key rank)) i p rows
  from_left true untried i p rows = from_all (all_tries K M guess p) i p rows
  from_left false untried i p rows = scanned None i p rows

  -- room says whether there is room to list the roads of the last of these rows
  module _ (room : List Row → Bool) where
    -- what is next at the last of so many rows
    abbrev pub next_row : (count : ℕ) → List Row → Next (List Row)
    next_row zero rows = nothing
    next_row (suc i) rows = from_left (room rows) (slice_index_or rows i no_row).left i (path_to i rows) rows

    -- the path in rows
    abbrev pub in_rows : Keeping (List Row)
    in_rows = record {
      empty = [];
      next = λ rows. next_row (length rows) rows;
      push = λ p rows. rows ++ (record { key = p.key; cost = p.cost; left = untried }) ∷ [];
    }
