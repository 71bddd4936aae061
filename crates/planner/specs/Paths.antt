-- The rows of a path: each but the first was reached from the one before.
use Rattle.std.specs.Prelude.{ℕ, zero, suc, List, [], ◌∷◌, ◌++◌}

abbrev pub before : ℕ → List ℕ
before zero = []
before (suc i) = i ∷ []

-- the parents of the first n rows of a path
abbrev pub path_parents : ℕ → List (List ℕ)
path_parents zero = []
path_parents (suc n) = path_parents n ++ before n ∷ []
