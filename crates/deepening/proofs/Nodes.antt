-- The rows of a path, by its nodes and by what is left to be tried of each.
use Rattle.std.proofs.Common.{◌≡◌, ℕ, zero, suc, ◌<◌, false, List, [], ◌∷◌, ◌++◌, map, length, take, get_or, set, None, refl, ap, arith}
use Rattle.std.specs.Option.{is_some}
use Rattle.store.specs.Rows.{number_of}
use Rattle.search.specs.Members.{has}
use Rattle.search.specs.Scan.{Left, untried, no_row}
use Rattle.deepening.specs.Views.{row_of, rows_of, nodes_of}

module _ {N C : Type 0} (key : N → ℕ) (weight : C → ℕ) where
  pub number_none : (k : ℕ) (xs : List (N × C)) → has k (nodes_of key weight xs) ≡ false → number_of key k xs ≡ None
  number_none k [] e = refl
  number_none k (x ∷ xs) e = grind (arith, number_none k xs)

  pub has_is : (k : ℕ) (xs : List (N × C)) → is_some (number_of key k xs) ≡ has k (nodes_of key weight xs)
  has_is k [] = refl
  has_is k (x ∷ xs) = grind (arith, has_is k xs)

  pub rows_keys : (xs : List (N × C)) (ls : List Left) → map (λ r. r.key) (rows_of key weight xs ls) ≡ nodes_of key weight xs
  rows_keys [] ls = refl
  rows_keys (x ∷ xs) [] = ap (λ ks. key x.0 ∷ ks) (rows_keys xs [])
  rows_keys (x ∷ xs) (l ∷ ls) = ap (λ ks. key x.0 ∷ ks) (rows_keys xs ls)

  pub rows_length : (xs : List (N × C)) (ls : List Left) → length (rows_of key weight xs ls) ≡ length xs
  rows_length [] ls = refl
  rows_length (x ∷ xs) [] = ap suc (rows_length xs [])
  rows_length (x ∷ xs) (l ∷ ls) = ap suc (rows_length xs ls)

  pub rows_push : (xs : List (N × C)) (ls : List Left) (x : N × C) (l : Left) → length xs ≡ length ls → rows_of key weight (xs ++ x ∷ []) (ls ++ l ∷ []) ≡ rows_of key weight xs ls ++ row_of key weight x l ∷ []
  rows_push [] [] x l e = refl
  rows_push [] (m ∷ ls) x l e = cc
  rows_push (y ∷ xs) [] x l e = cc
  rows_push (y ∷ xs) (m ∷ ls) x l e = ap (λ rs. row_of key weight y m ∷ rs) (rows_push xs ls x l (omega arith))

  pub rows_take : (n : ℕ) (xs : List (N × C)) (ls : List Left) → rows_of key weight (take n xs) (take n ls) ≡ take n (rows_of key weight xs ls)
  rows_take zero xs ls = refl
  rows_take (suc n) [] ls = refl
  rows_take (suc n) (x ∷ xs) [] = ap (λ rs. row_of key weight x untried ∷ rs) (go n xs)
    where
      go : (n : ℕ) (xs : List (N × C)) → rows_of key weight (take n xs) [] ≡ take n (rows_of key weight xs [])
      go zero xs = refl
      go (suc n) [] = refl
      go (suc n) (x ∷ xs) = ap (λ rs. row_of key weight x untried ∷ rs) (go n xs)
  rows_take (suc n) (x ∷ xs) (l ∷ ls) = ap (λ rs. row_of key weight x l ∷ rs) (rows_take n xs ls)

  pub rows_get : (xs : List (N × C)) (ls : List Left) (i : ℕ) (n : N) (c : C) (l : Left) → i < length xs → length xs ≡ length ls → ((d : N × C) → n ≡ (get_or xs i d).0) → ((d : N × C) → c ≡ (get_or xs i d).1) → l ≡ get_or ls i untried
      → get_or (rows_of key weight xs ls) i no_row ≡ record { key = key n; cost = weight c; left = l }
  rows_get [] ls i n c l h e en ec el = absurd (omega arith)
  rows_get (x ∷ xs) [] i n c l h e en ec el = cc
  rows_get (x ∷ xs) (m ∷ ls) zero n c l h e en ec el = let a = en x in let b = ec x in grind arith
  rows_get (x ∷ xs) (m ∷ ls) (suc i) n c l h e en ec el = rows_get xs ls i n c l (omega arith) (omega arith) en ec el

  pub rows_set : (xs : List (N × C)) (ls : List Left) (i : ℕ) (l m : Left) (k w : ℕ) → length xs ≡ length ls → i < length xs → get_or (rows_of key weight xs ls) i no_row ≡ record { key = k; cost = w; left = m }
      → rows_of key weight xs (set ls i l) ≡ set (rows_of key weight xs ls) i (record { key = k; cost = w; left = l })
  rows_set [] ls i l m k w e h g = absurd (omega arith)
  rows_set (x ∷ xs) [] i l m k w e h g = cc
  rows_set (x ∷ xs) (y ∷ ls) zero l m k w e h g = grind arith
  rows_set (x ∷ xs) (y ∷ ls) (suc i) l m k w e h g = ap (λ rs. row_of key weight x y ∷ rs) (rows_set xs ls i l m k w (omega arith) (omega arith) g)
