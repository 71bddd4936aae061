-- The queues now and later, and the ring that has them with a border between.
use Rattle.std.specs.Prelude.{◌≡◌, ℕ, ◌+◌, ◌<◌, cond, ◌⊎◌, List, [], ◌∷◌, Some, None, Option, ◌==◌}
use Rattle.queues.specs.Lists.{In, Distinct, without}
use Rattle.queues.specs.Rings.{Order}

-- the rows of each queue, the front first, and how many rows there may be
pub record Queued : Type 0 where
  pub now : List ℕ
  pub later : List ℕ
  pub rows : ℕ

abbrev pub front : List ℕ → Option ℕ
front [] = None
front (x ∷ xs) = Some x

abbrev pub behind : List ℕ → List ℕ
behind [] = []
behind (x ∷ xs) = xs

-- what stands before node m, and what after
abbrev pub ahead : ℕ → List ℕ → List ℕ
ahead m [] = []
ahead m (x ∷ xs) = cond (x == m) [] (x ∷ ahead m xs)

abbrev pub past : ℕ → List ℕ → List ℕ
past m [] = []
past m (x ∷ xs) = cond (x == m) xs (past m xs)

-- the queues on both sides of the border
abbrev pub parted : Order → Queued
parted o = record { now = ahead (o.rows + 1) o.order; later = past (o.rows + 1) o.order; rows = o.rows }

-- row j is in neither queue
abbrev pub IsLoose : ℕ → Queued → Type 0
IsLoose j q = (without j q.now ≡ q.now) × (without j q.later ≡ q.later)

-- the order has the border once, and rows below n
pub record Bordered (n : ℕ) (q : List ℕ) : Type 0 where
  pub border : In (n + 1) q
  pub apart : Distinct q
  pub known : (x : ℕ) → In x q → (x < n) ⊎ (x ≡ n + 1)
