-- Rows in a ring: the end, which is node n, then the rows and the border, which is node n + 1, in their order, then the end again.
use Rattle.std.specs.Prelude.{◌≡◌, ℕ, zero, suc, ◌+◌, ◌<◌, ◌≤◌, cond, ◌⊎◌, List, [], ◌∷◌, ◌==◌, ◌≢◌}
use Rattle.queues.specs.declared.nodes.Neighbours.{Neighbours}
use Rattle.queues.specs.Nodes.{after, before}
use Rattle.queues.specs.Lists.{In, Distinct}

-- from a along xs to z, forth and back
abbrev pub Chain : List Neighbours → ℕ → List ℕ → ℕ → Type 0
Chain ns a [] z = (after ns a ≡ z) × (before ns z ≡ a)
Chain ns a (x ∷ xs) z = ((after ns a ≡ x) × (before ns x ≡ a)) × Chain ns x xs z

-- at most k nodes from x up to z
abbrev pub walk : List Neighbours → (k z x : ℕ) → List ℕ
walk ns zero z x = []
walk ns (suc k) z x = cond (x == z) [] (x ∷ walk ns k z (after ns x))

unfoldable pub ring : List Neighbours → ℕ → List ℕ
ring ns n = walk ns (n + 2) n (after ns n)

-- the nodes have the ring q; of the first `used` rows, those in no queue are marked
pub record Holds (ns : List Neighbours) (n used : ℕ) (q : List ℕ) : Type 0 where
  pub chain : Chain ns n q n
  pub apart : Distinct (n ∷ q)
  pub known : (x : ℕ) → In x q → (x < used) ⊎ (x ≡ n + 1)
  pub marked : (x : ℕ) → x < used → (after ns x ≢ 65535) → In x q
  pub few : used ≤ n
  pub wide : n ≤ 32768

-- what each call keeps
abbrev pub Kept : List Neighbours → ℕ → ℕ → Type 0
Kept ns n used = Holds ns n used (ring ns n)

-- the rows and the border in their order, and how many rows there may be
pub record Order : Type 0 where
  pub order : List ℕ
  pub rows : ℕ

-- the end and the border of a ring with no row
abbrev pub alone_at : (end : ℕ) → List Neighbours
alone_at end = record { before = end + 1; after = end + 1 } ∷ record { before = end; after = end } ∷ []

-- what the nodes are seen as
abbrev pub ordered : List Neighbours → ℕ → Order
ordered ns n = record { order = ring ns n; rows = n }
