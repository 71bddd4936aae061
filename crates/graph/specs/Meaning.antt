-- What a graph means. Nodes stand here by their keys and costs by their weights, both whole numbers.
use Rattle.std.specs.Prelude.{◌≡◌, ℕ, ◌<◌, ◌≤◌, Bool, true, false}
use Rattle.graph.specs.declared.fault.Fault.{Fault}

-- a road is open and leads to a key at a weight, or is closed, or is faulty
pub data Road : Type 0 where
  opened : (key weight : ℕ) → Road
  closed : Road
  faulty : Fault → Road

-- what a graph says of each key, but for its guess: on that no route depends
pub record Meaning : Type 0 where
  pub held : ℕ → Bool
  pub zone : ℕ → ℕ
  pub count : ℕ → ℕ
  pub road : (key rank : ℕ) → Road
  pub goal : ℕ → Bool

-- the meaning of a graph that says this of its keys
abbrev pub meaning :
    (holds : ℕ → Bool) (zones counts : ℕ → ℕ) (roads : ℕ → ℕ → Road) (goals : ℕ → Bool) → Meaning
meaning holds zones counts roads goals =
    record { held = holds; zone = zones; count = counts; road = roads; goal = goals }

-- the laws of graphs: zones and counts are within their limits, an open road leads to a held key, a rank not below the
-- count is closed, and a key that is not held has zone 0, no road, guess zero, and is no goal
pub record IsLawful (M : Meaning) (guess : ℕ → ℕ) : Type 0 where
  pub zones : (k : ℕ) → M.zone k < 64
  pub counts : (k : ℕ) → M.count k ≤ 65535
  pub leads : (k rank to w : ℕ) → M.road k rank ≡ opened to w → M.held to ≡ true
  pub past : (k rank : ℕ) → M.count k ≤ rank → M.road k rank ≡ closed
  pub no_zone : (k : ℕ) → M.held k ≡ false → M.zone k ≡ 0
  pub no_roads : (k : ℕ) → M.held k ≡ false → M.count k ≡ 0
  pub no_guess : (k : ℕ) → M.held k ≡ false → guess k ≡ 0
  pub no_goal : (k : ℕ) → M.held k ≡ false → M.goal k ≡ false
