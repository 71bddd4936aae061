-- What the calls that keep the tries of a path see.
use Rattle.std.specs.Prelude.{ℕ, List}
use Rattle.search.specs.Scan.{Left}

-- which roads are still to be tried of each row, and how many rows there are in all
pub record Trail : Type 0 where
  pub lefts : List Left
  pub room : ℕ
