-- What a list has, and that nothing stands in it twice.
use Rattle.std.specs.Prelude.{◌≡◌, ℕ, Bool, ◌⊎◌, List, [], ◌∷◌, ◌==◌}
use Rattle.std.specs.List.{list_any}

module _ {A : Type 0} where
  abbrev pub In : A → List A → Type 0
  In a [] = ⊥
  In a (x ∷ xs) = (a ≡ x) ⊎ In a xs

  -- no element stands twice
  abbrev pub Distinct : List A → Type 0
  Distinct [] = Unit {0}
  Distinct (x ∷ xs) = (In x xs → ⊥) × Distinct xs

-- whether a list of numbers has one
abbrev pub has : ℕ → List ℕ → Bool
has k ks = list_any (λ j. j == k) ks
