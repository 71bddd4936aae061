-- The words of each refusal of a search and of a hand-out.
use Rattle.std.specs.Prelude.{ℕ, List, ◌++◌, Some, None, codes}
use Rattle.std.specs.Fmt.{decimal}
use Rattle.search.specs.declared.refusal.SeekRefusal.{SeekRefusal}
use Rattle.search.specs.declared.refusal.SeekRefusal.TheVariants.{NotHeld, FaultyRoad, ZeroWeight, NoSum, NoRow, NoLink}
use Rattle.search.specs.declared.refusal.HandOutRefusal.{HandOutRefusal}
use Rattle.search.specs.declared.refusal.HandOutRefusal.TheVariants.{Short}

abbrev pub seek_words : SeekRefusal → List ℕ
seek_words NotHeld = codes "the start is not held"
seek_words (FaultyRoad row fault) =
    codes "a road of row " ++ (decimal row ++ (codes " is faulty: rank " ++ (decimal fault.rank ++ (codes " at depth " ++ decimal fault.depth))))
seek_words (ZeroWeight row rank) =
    codes "road " ++ (decimal rank ++ (codes " of row " ++ (decimal row ++ codes " weighs nothing")))
seek_words (NoSum row (Some rank)) =
    codes "a sum of costs does not fit at road " ++ decimal rank ++ codes " of row " ++ decimal row
seek_words (NoSum row None) =
    codes "a sum of costs does not fit at row " ++ decimal row
seek_words (NoRow row rank) =
    codes "no row is left for the end of road " ++ decimal rank ++ codes " of row " ++ decimal row
seek_words (NoLink row rank) =
    codes "no link is left for road " ++ decimal rank ++ codes " of row " ++ decimal row

abbrev pub hand_out_words : HandOutRefusal → List ℕ
hand_out_words (Short needed) = codes "the output needs room for " ++ decimal needed ++ codes " nodes"
