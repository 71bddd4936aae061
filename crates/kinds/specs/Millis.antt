-- Milliseconds: sums fit up to the greatest number of 32 bits, and no cost weighs more than that.
use Rattle.std.specs.Prelude.{◌+◌, nat_le}
use Rattle.kinds.specs.Kind.{Kind}

abbrev pub millis_kind : Kind
millis_kind = record { fits = λ a b. nat_le (a + b) 4294967295; greatest = 4294967295 }
