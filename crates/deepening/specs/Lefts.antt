-- What the first rows leave to be tried.
use Rattle.std.specs.Prelude.{ℕ, List, map, take}
use Rattle.search.specs.Scan.{Left}
use Rattle.deepening.specs.declared.tries.Tried.{Tried}
use Rattle.deepening.specs.Views.{left_of}

unfoldable pub lefts : List Tried → (n : ℕ) → List Left
lefts rows n = map left_of (take n rows)
