-- The keys and the parents of the rows that were found.
use Rattle.std.proofs.Common.{◌≡◌, ℕ, List, [], ◌∷◌, map, length, refl, arith}
use Rattle.listing.specs.Handing.{keys_in, parents_in}
use Rattle.planner.specs.Standing.{rows_of}

module _ {N C : Type 0} (key : N → ℕ) (weight : C → ℕ) where
  pub keys_found : (l : List (N × C)) (ps : List (List ℕ)) → keys_in (rows_of key weight l ps) ≡ map (λ x. key x.0) l
  keys_found [] ps = refl
  keys_found (x ∷ l) [] = grind (arith, keys_found l [])
  keys_found (x ∷ l) (p ∷ ps) = grind (arith, keys_found l ps)

  pub parents_found : (l : List (N × C)) (ps : List (List ℕ)) → length ps ≡ length l → parents_in (rows_of key weight l ps) ≡ ps
  parents_found [] [] e = refl
  parents_found [] (p ∷ ps) e = cc
  parents_found (x ∷ l) [] e = cc
  parents_found (x ∷ l) (p ∷ ps) e = grind (arith, parents_found l ps)

pub ruleset columns = (keys_found, parents_found)
