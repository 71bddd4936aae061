-- A refusal of a search, in words.
use Rattle.std.specs.Prelude.{ℕ, List, ◌++◌, Some, None, codes}
use Rattle.std.specs.Fmt.{decimal}
use Rattle.search.specs.declared.refusal.SeekRefusal.{SeekRefusal}
use Rattle.search.specs.declared.refusal.SeekRefusal.TheVariants.{NotHeld, FaultyRoad, ZeroWeight, NoSum, NoRow, NoLink}

-- where the search was: at a row of the planner, and at the road of a rank of it
abbrev pub at_row : ℕ → List ℕ
at_row row = codes ", at the planner's row " ++ decimal row

abbrev pub at_road : ℕ → ℕ → List ℕ
at_road row rank = at_row row ++ codes ", rank " ++ decimal rank

abbrev pub reason_of : SeekRefusal → List ℕ
reason_of NotHeld = codes "the start is outside, solid or fenced off"
reason_of (FaultyRoad row fault) = codes "a toll does not fit" ++ at_road row fault.rank ++ codes ", depth " ++ decimal fault.depth
reason_of (ZeroWeight row rank) = codes "a step weighs nothing" ++ at_road row rank
reason_of (NoSum row (Some rank)) = codes "a cost does not fit" ++ at_road row rank
reason_of (NoSum row None) = codes "a cost does not fit" ++ at_row row
reason_of (NoRow row rank) = codes "no row is left" ++ at_road row rank
reason_of (NoLink row rank) = codes "no link is left" ++ at_road row rank
