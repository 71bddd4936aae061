-- Routes, what they weigh, and guesses that are true.
use Rattle.std.specs.Prelude.{◌≡◌, ℕ, ◌+◌, ◌≤◌, true, List, [], ◌∷◌}
use Rattle.graph.specs.Meaning.{Meaning, opened}

-- the lightest open road from one key to another weighs w
pub record Step (M : Meaning) (a b w : ℕ) : Type 0 where
  pub rank : ℕ
  pub is : M.road a rank ≡ opened b w
  pub least : (rank' w' : ℕ) → M.road a rank' ≡ opened b w' → w ≤ w'

-- a route that begins at a key, as the list of its keys, and its weight: held keys, each joined to the next by an open
-- road, the last a goal; each step weighs what the lightest open road between its two keys does
pub data Weighs (M : Meaning) : ℕ → List ℕ → ℕ → Type 0 where
  ends : {k : ℕ} → M.held k ≡ true → M.goal k ≡ true → Weighs M k (k ∷ []) 0
  goes :
      {k to w v : ℕ} {ks : List ℕ} → M.held k ≡ true → Step M k to w → Weighs M to ks v →
      Weighs M k (k ∷ ks) (w + v)

-- a route from a key
abbrev pub Route : Meaning → ℕ → List ℕ → Type 0
Route M k ks = (w : ℕ) × Weighs M k ks w

-- a route from a key that no route from there outweighs
pub record Lightest (M : Meaning) (k : ℕ) (ks : List ℕ) : Type 0 where
  pub weight : ℕ
  pub weighs : Weighs M k ks weight
  pub least : (ks' : List ℕ) (w : ℕ) → Weighs M k ks' w → weight ≤ w

-- at every held key the guess weighs no more than any route that begins there
abbrev pub IsTrueGuess : Meaning → (ℕ → ℕ) → Type 0
IsTrueGuess M guess =
    (k : ℕ) (ks : List ℕ) (w : ℕ) → M.held k ≡ true → Weighs M k ks w → guess k ≤ w
