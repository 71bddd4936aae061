-- What sinks hold.
use Rattle.std.specs.Prelude.{◌≡◌, ℕ, ◌<◌, ◌≤◌, true, List, length, take, ◌==◌}
use Rattle.std.specs.List.{list_any, IsDistinct}

-- the sinks, in the order of joining, and how many there may be
pub record Joined : Type 0 where
  pub sinks : List ℕ
  pub places : ℕ

-- what each call keeps of the first n rows: none stands twice, and each has a lower number than there are places
pub record Kept (rows : List ℕ) (n : ℕ) : Type 0 where
  pub fits : n ≤ length rows
  pub once : IsDistinct (λ r s. r == s) (take n rows)
  pub below : (q : ℕ) → list_any (λ s. q == s) (take n rows) ≡ true → q < length rows
