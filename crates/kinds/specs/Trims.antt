-- Trims with milliseconds, of which a trim outweighs all milliseconds.
use Rattle.std.specs.Prelude.{ℕ, ◌+◌, ◌*◌, ◌/◌, ◌%◌, Bool, ◌&&◌, nat_le}
use Rattle.kinds.specs.Kind.{Kind}

-- what trims and milliseconds weigh together
abbrev pub weight_of : (trims millis : ℕ) → ℕ
weight_of trims millis = trims * 4294967296 + millis

-- sums fit where both parts do
abbrev pub both_fit : ℕ → ℕ → Bool
both_fit a b =
    nat_le (a / 4294967296 + b / 4294967296) 4294967295 && nat_le (a % 4294967296 + b % 4294967296) 4294967295

abbrev pub trims_kind : Kind
trims_kind = record { fits = both_fit; greatest = 18446744073709551615 }
