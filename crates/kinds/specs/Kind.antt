-- What a cost kind says of weights.
use Rattle.std.specs.Prelude.{◌≡◌, ℕ, ◌+◌, ◌≤◌, Bool, true, if◌then◌else◌, Some, None, Option}

-- which sums fit, and the greatest weight
pub record Kind : Type 0 where
  pub fits : ℕ → ℕ → Bool
  pub greatest : ℕ

-- no sum that fits outweighs the greatest
abbrev pub IsBounded : Kind → Type 0
IsBounded K = (a b : ℕ) → K.fits a b ≡ true → a + b ≤ K.greatest

-- the weight of a sum, where there is one
abbrev pub sum_of : {C : Type 0} → (C → ℕ) → Option C → Option ℕ
sum_of weight (Some c) = Some (weight c)
sum_of weight None = None

-- the sum of two weights, where it fits
abbrev pub sum_in : Kind → (a b : ℕ) → Option ℕ
sum_in K a b = if K.fits a b then Some (a + b) else None
