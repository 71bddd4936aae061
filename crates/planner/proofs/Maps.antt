-- The planner's lists and the definition's: each operation of the one is that of the other, and what each keeps.
use Rattle.std.proofs.Common.{◌≡◌, ℕ, zero, suc, ◌+◌, ◌<◌, ◌≤◌, Bool, true, false, List, [], ◌∷◌, ◌++◌, map, length, get_or, set, Some, None, Option, refl, arith, length-append, length-set, ltb-true}
use Rattle.std.specs.List.{AllByRecursion}
use Rattle.std.proofs.lemmas.Bool.Decides.{nat_tests}
use Rattle.std.proofs.lemmas.Grind.{common_steps}
use Rattle.store.specs.Rows.{number_of}
use Rattle.links.specs.Listings.{held}
use Rattle.search.specs.Rows.{no_row, find, links_in}
use Rattle.planner.specs.Standing.{row_of, rows_of, Below}

-- some element of a list that has one
pub some_of : {X : Type 0} (l : List X) (j : ℕ) → j < length l → X
some_of [] j h = absurd (omega arith)
some_of (x ∷ l) j h = x

module _ {N C : Type 0} (key : N → ℕ) (weight : C → ℕ) where
  pub find_rows : (k : ℕ) (l : List (N × C)) (ps : List (List ℕ)) → find k (rows_of key weight l ps) ≡ number_of key k l
  find_rows k [] ps = refl
  find_rows k (x ∷ l) [] = grind (arith, find_rows k l [])
  find_rows k (x ∷ l) (p ∷ ps) = grind (arith, find_rows k l ps)

  pub length_rows : (l : List (N × C)) (ps : List (List ℕ)) → length (rows_of key weight l ps) ≡ length l
  length_rows [] ps = refl
  length_rows (x ∷ l) [] = grind (arith, length_rows l [])
  length_rows (x ∷ l) (p ∷ ps) = grind (arith, length_rows l ps)

  pub rows_push : (l : List (N × C)) (ps : List (List ℕ)) (x : N × C) (p : List ℕ) → length ps ≡ length l → rows_of key weight (l ++ x ∷ []) (ps ++ p ∷ []) ≡ rows_of key weight l ps ++ row_of key weight x p ∷ []
  rows_push [] [] x p e = refl
  rows_push [] (q ∷ ps) x p e = cc
  rows_push (y ∷ l) [] x p e = cc
  rows_push (y ∷ l) (q ∷ ps) x p e = grind (arith, common_steps, rows_push l ps x p)

  pub rows_set : (l : List (N × C)) (ps : List (List ℕ)) (j : ℕ) (x : N × C) (p : List ℕ) → length ps ≡ length l → rows_of key weight (set l j x) (set ps j p) ≡ set (rows_of key weight l ps) j (row_of key weight x p)
  rows_set [] [] j x p e = refl
  rows_set [] (q ∷ ps) j x p e = cc
  rows_set (y ∷ l) [] j x p e = cc
  rows_set (y ∷ l) (q ∷ ps) zero x p e = refl
  rows_set (y ∷ l) (q ∷ ps) (suc j) x p e = grind (arith, common_steps, rows_set l ps j x p)

  -- another list of parents for one row
  pub rows_tied : (l : List (N × C)) (ps : List (List ℕ)) (j : ℕ) (p : List ℕ) (d : N × C) → length ps ≡ length l → j < length l → rows_of key weight l (set ps j p) ≡ set (rows_of key weight l ps) j (row_of key weight (get_or l j d) p)
  rows_tied [] ps j p d e h = absurd (omega arith)
  rows_tied (y ∷ l) [] j p d e h = cc
  rows_tied (y ∷ l) (q ∷ ps) zero p d e h = refl
  rows_tied (y ∷ l) (q ∷ ps) (suc j) p d e h = grind (arith, common_steps, rows_tied l ps j p d)

  -- a row by its node and cost, and its parents
  pub row_at : (l : List (N × C)) (ps : List (List ℕ)) (j : ℕ) (d : N × C) → length ps ≡ length l → j < length l → get_or (rows_of key weight l ps) j no_row ≡ row_of key weight (get_or l j d) (get_or ps j [])
  row_at [] ps j d e h = absurd (omega arith)
  row_at (y ∷ l) [] j d e h = cc
  row_at (y ∷ l) (q ∷ ps) zero d e h = refl
  row_at (y ∷ l) (q ∷ ps) (suc j) d e h = grind (arith, common_steps, row_at l ps j d)

  pub links_rows : (l : List (N × C)) (ps : List (List ℕ)) → length ps ≡ length l → links_in (rows_of key weight l ps) ≡ held ps
  links_rows [] [] e = refl
  links_rows [] (q ∷ ps) e = cc
  links_rows (y ∷ l) [] e = cc
  links_rows (y ∷ l) (q ∷ ps) e = grind (arith, common_steps, links_rows l ps)

module _ {N C : Type 0} (key : N → ℕ) where
  pub number_below : (k : ℕ) (l : List (N × C)) (j : ℕ) → number_of key k l ≡ Some j → j < length l
  number_below k [] j e = cc
  number_below k (x ∷ l) j e = grind (arith, number_below k l)

  pub number_key : (k : ℕ) (l : List (N × C)) (j : ℕ) (d : N × C) → number_of key k l ≡ Some j → key (get_or l j d).0 ≡ k
  number_key k [] j d e = cc
  number_key k (x ∷ l) j d e = grind (arith, nat_tests, number_key k l)

-- one link more than without the row's list
pub held_one : (ps : List (List ℕ)) (j p : ℕ) → j < length ps → held (set ps j (p ∷ [])) ≡ held (set ps j []) + 1
held_one [] j p h = absurd (omega arith)
held_one (q ∷ ps) zero p h = grind (arith, common_steps)
held_one (q ∷ ps) (suc j) p h = grind (arith, common_steps, held_one ps j p)

-- one link more than with the list so far
pub held_more : (ps : List (List ℕ)) (j p : ℕ) → j < length ps → held (set ps j (get_or ps j [] ++ p ∷ [])) ≡ held ps + 1
held_more [] j p h = absurd (omega arith)
held_more (q ∷ ps) zero p h = grind (arith, common_steps)
held_more (q ∷ ps) (suc j) p h = grind (arith, common_steps, held_more ps j p)

-- a list that is put anew where it stands
pub set_last : (ps : List (List ℕ)) (q r : List ℕ) (n : ℕ) → n ≡ length ps → set (ps ++ q ∷ []) n r ≡ ps ++ r ∷ []
set_last [] q r n e = grind (arith, common_steps)
set_last (x ∷ ps) q r zero e = cc
set_last (x ∷ ps) q r (suc n) e = grind (arith, common_steps, set_last ps q r n)

-- rows below a number are below a greater one
pub below_more : (n m : ℕ) (js : List ℕ) → n ≤ m → Below n js → Below m js
below_more n m [] l b = tt
below_more n m (j ∷ js) l b = grind (arith, below_more n m js)

pub below_push : (n : ℕ) (js : List ℕ) (j : ℕ) → Below n js → j < n → Below n (js ++ j ∷ [])
below_push n [] j b h = (h, tt)
below_push n (i ∷ js) j b h = (b.0, below_push n js j b.1 h)

pub all_more : (n m : ℕ) (ps : List (List ℕ)) → n ≤ m → AllByRecursion (Below n) ps → AllByRecursion (Below m) ps
all_more n m [] l b = tt
all_more n m (p ∷ ps) l b = (below_more n m p l b.0, all_more n m ps l b.1)

pub all_push : (n : ℕ) (ps : List (List ℕ)) (p : List ℕ) → AllByRecursion (Below n) ps → Below n p → AllByRecursion (Below n) (ps ++ p ∷ [])
all_push n [] p b h = (h, tt)
all_push n (q ∷ ps) p b h = (b.0, all_push n ps p b.1 h)

pub all_set : (n : ℕ) (ps : List (List ℕ)) (j : ℕ) (p : List ℕ) → AllByRecursion (Below n) ps → Below n p → AllByRecursion (Below n) (set ps j p)
all_set n [] j p b h = tt
all_set n (q ∷ ps) zero p b h = (h, b.1)
all_set n (q ∷ ps) (suc j) p b h = (b.0, all_set n ps j p b.1 h)

pub all_at : (n : ℕ) (ps : List (List ℕ)) (j : ℕ) → AllByRecursion (Below n) ps → Below n (get_or ps j [])
all_at n [] j b = tt
all_at n (q ∷ ps) zero b = b.0
all_at n (q ∷ ps) (suc j) b = all_at n ps j b.1

-- what the steps of a search need of the lists
pub ruleset lists = (find_rows, length_rows, number_below, number_key, length-append, length-set, ltb-true)
