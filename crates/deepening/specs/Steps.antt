-- The steps of idastar over rows, where no roads are listed.
use Rattle.std.specs.Prelude.{ℕ, Bool, false, List, None, Option}
use Rattle.kinds.specs.Kind.{Kind}
use Rattle.graph.specs.Meaning.{Meaning}
use Rattle.search.specs.Capacity.{Capacity}
use Rattle.search.specs.Ends.{Turned}
use Rattle.search.specs.Deepening.{Path, Try}
use Rattle.search.specs.Loop.{Keeping, State, arrive, summed, again, turn}
use Rattle.search.specs.Scan.{Left, untried, last, listed, Row, tried_road, in_rows}

-- so many rows and no links
abbrev pub rows_only : ℕ → Capacity
rows_only n = record { rows = n; links = 0 }

-- no roads are listed
abbrev pub no_room : List Row → Bool
no_room rows = false

module _ (K : Kind) (M : Meaning) (guess : ℕ → ℕ) where
  abbrev pub scanning : Keeping (List Row)
  scanning = in_rows K M guess no_room

  -- the road that was tried last
  abbrev pub tried_last : (key : ℕ) → Left → Option Try
  tried_last key untried = None
  tried_last key (last rank) = tried_road K M guess rank (M.road key rank)
  tried_last key (listed ts) = None

  abbrev pub arriving : Path → State (List Row) → Turned (State (List Row))
  arriving p s = arrive scanning K M guess p s

  abbrev pub trying : (room : ℕ) → Path → Try → State (List Row) → Turned (State (List Row))
  trying room p t s = summed scanning K M guess (rows_only room) (K.fits p.cost t.weight) p t s

  abbrev pub beginning : (room start : ℕ) → Option ℕ → Turned (State (List Row))
  beginning room start noted = again scanning K M guess (rows_only room) start noted

  abbrev pub turning : (room start : ℕ) → State (List Row) → Turned (State (List Row))
  turning room start s = turn scanning K M guess (rows_only room) start s
