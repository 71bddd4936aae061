-- Tables of the zones.
use Rattle.std.specs.Prelude.{ℕ, Bool, true, false, if◌then◌else◌, List, replicate, nat_lt, slice_index_or, slice_set}
use Rattle.graph.specs.Meaning.{Meaning}

-- whether a table has the zone of a key
abbrev pub in_table : List Bool → Meaning → ℕ → Bool
in_table table M k = slice_index_or table (M.zone k) false

-- the table of one zone, or of none where the number is none of a zone
abbrev pub only_zone : ℕ → List Bool
only_zone zone =
    if nat_lt zone 64 then slice_set (replicate 64 false) zone true else replicate 64 false
