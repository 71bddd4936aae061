-- The route along the rows of a path.
use Rattle.std.proofs.Common.{◌≡◌, ℕ, zero, suc, ◌<◌, ◌≤◌, List, [], ◌∷◌, ◌++◌, map, length, get_or, take, refl, sym, ◌∙◌, inl, inr, arith, length-append}
use Rattle.std.proofs.lemmas.Grind.{common_steps}
use Rattle.std.proofs.lemmas.List.{length-map}
use Rattle.std.proofs.lemmas.Bool.Decides.{leb_tells}
use Rattle.kinds.specs.Kind.{Kind}
use Rattle.graph.specs.Meaning.{Meaning, IsLawful}
use Rattle.graph.specs.Routes.{Weighs}
use Rattle.search.specs.declared.method.Method.TheVariants.{Idastar}
use Rattle.search.specs.Answers.{Answers}
use Rattle.search.specs.Capacity.{Capacity}
use Rattle.search.specs.Outcome.{found}
use Rattle.search.proofs.Searches.{searches_right}
use Rattle.search.specs.Members.{In}
use Rattle.search.specs.Rows.{Row, no_row, routes_by, routes_to}
use Rattle.listing.specs.Handing.{Falling}
use Rattle.std.specs.List.{AllByRecursion}
use Rattle.planner.specs.Standing.{rows_of, Below}
use Rattle.planner.specs.Paths.{before, path_parents}
use Rattle.planner.proofs.Maps.{some_of, row_at, length_rows, all_push}

pub length_path : (n : ℕ) → length (path_parents n) ≡ n
length_path zero = refl
length_path (suc n) = grind (arith, length-append, length_path n)

at_front : (xs : List (List ℕ)) (y : List ℕ) (i : ℕ) → i < length xs → get_or (xs ++ y ∷ []) i [] ≡ get_or xs i []
at_front [] y i h = absurd (omega arith)
at_front (x ∷ xs) y zero h = refl
at_front (x ∷ xs) y (suc i) h = at_front xs y i (omega arith)

at_end : (xs : List (List ℕ)) (y : List ℕ) (i : ℕ) → i ≡ length xs → get_or (xs ++ y ∷ []) i [] ≡ y
at_end [] y zero e = refl
at_end [] y (suc i) e = absurd (omega arith)
at_end (x ∷ xs) y zero e = absurd (omega arith)
at_end (x ∷ xs) y (suc i) e = at_end xs y i (omega arith)

pub parent_at : (n i : ℕ) → i < n → get_or (path_parents n) i [] ≡ before i
parent_at zero i h = absurd (omega arith)
parent_at (suc n) i h = elim (leb_tells n i) [
  | inl x ↦ (let z : i ≡ n = omega (arith, h, x.1) in rw z (at_end (path_parents n) (before n) n (sym (length_path n))))
  | inr x ↦ at_front (path_parents n) (before n) i (rw (length_path n) x.1) ∙ parent_at n i x.1
]

take_on : (xs : List ℕ) (i : ℕ) (acc : List ℕ) → i < length xs → take (suc i) xs ++ acc ≡ take i xs ++ (get_or xs i 0 ∷ acc)
take_on [] i acc h = absurd (omega arith)
take_on (x ∷ xs) zero acc h = refl
take_on (x ∷ xs) (suc i) acc h = grind (arith, common_steps, take_on xs i acc)

take_whole : (xs : List ℕ) (n : ℕ) → length xs ≤ n → take n xs ++ [] ≡ xs
take_whole [] zero h = refl
take_whole [] (suc n) h = refl
take_whole (x ∷ xs) zero h = absurd (omega arith)
take_whole (x ∷ xs) (suc n) h = grind (arith, common_steps, take_whole xs n)

key_at : {N C : Type 0} (key : N → ℕ) (l : List (N × C)) (i : ℕ) (d : N × C) → i < length l → get_or (map (λ x. key x.0) l) i 0 ≡ key (get_or l i d).0
key_at key [] i d h = absurd (omega arith)
key_at key (x ∷ l) zero d h = refl
key_at key (x ∷ l) (suc i) d h = grind (arith, common_steps, key_at key l i d)

module _ {N C : Type 0} (key : N → ℕ) (weight : C → ℕ) (l : List (N × C)) where
  abbrev keys : List ℕ
  keys = map (λ x. key x.0) l

  abbrev rows : List Row
  rows = rows_of key weight l (path_parents (length l))

  row_is : (i : ℕ) → i < length l → ((get_or rows i no_row).key ≡ get_or keys i 0) × ((get_or rows i no_row).parents ≡ before i)
  row_is i h =
      let d = some_of l i h in
      let e = row_at key weight l (path_parents (length l)) i d (length_path (length l)) h in
      let k = key_at key l i d h in
      let p = parent_at (length l) i h in
      grind arith

  by_path : (n i : ℕ) (acc : List ℕ) → i < n → i < length l → routes_by n rows i acc ≡ (take (suc i) keys ++ acc) ∷ []
  unfolding routes_by
  by_path zero i acc f h = absurd (omega arith)
  by_path (suc n) zero acc f h =
      let r = row_is zero h in
      let t = take_on keys zero acc (rw length-map h) in
      grind arith
  by_path (suc n) (suc i) acc f h =
      let r = row_is (suc i) h in
      let t = take_on keys (suc i) acc (rw length-map h) in
      let s = by_path n i (get_or keys (suc i) 0 ∷ acc) (omega arith) (omega arith) in
      grind arith

  pub path_route : (j : ℕ) → suc j ≡ length l → routes_to rows j ≡ keys ∷ []
  path_route j e =
      let a = by_path (length rows) j [] (rw (length_rows key weight l (path_parents (length l))) (omega arith)) (omega arith) in
      let b = take_whole keys (suc j) (rw length-map (omega arith)) in
      grind arith

before_falls : (i j : ℕ) → In j (before i) → j < i
before_falls zero j h = absurd h
before_falls (suc i) j h = grind arith

none_past : (ls : List (List ℕ)) (i : ℕ) → length ls ≤ i → get_or ls i [] ≡ []
none_past [] i h = refl
none_past (x ∷ ls) zero h = absurd (omega arith)
none_past (x ∷ ls) (suc i) h = none_past ls i (omega arith)

-- the parents of a row of the path stand before it
parents_before : (n i j : ℕ) → In j (get_or (path_parents n) i []) → (j < i) × (j < n)
parents_before n i j h = elim (leb_tells n i) [
  | inl x ↦ absurd (rw (none_past (path_parents n) i (rw (length_path n) x.1)) at h)
  | inr x ↦ (let b = before_falls i j (rw (parent_at n i x.1) at h) in (b, omega (arith, b, x.1)))
]

pub path_falls : (n : ℕ) → Falling (path_parents n)
path_falls n = record {
  rank = λ i. i;
  falls = λ i j h. (parents_before n i j h).0;
  inside = λ i j h. rw (length_path n) (parents_before n i j h).1;
}

before_below : (n m : ℕ) → n ≤ m → Below m (before n)
before_below zero m l = tt
before_below (suc n) m l = (omega arith, tt)

-- the parents of a path's rows are among as many rows
pub path_below : (n m : ℕ) → n ≤ m → AllByRecursion (Below m) (path_parents n)
path_below zero m l = tt
path_below (suc n) m l = all_push m (path_parents n) (before n) (path_below n m (omega arith)) (before_below n m (omega arith))

some_keys : (M : Meaning) (k : ℕ) (ks : List ℕ) (w : ℕ) → Weighs M k ks w → 0 < length ks
some_keys M k ks w (Weighs.ends h g) = omega arith
some_keys M k ks w (Weighs.goes h s r) = omega arith

-- the path that idastar finds has a row
pub path_some : (K : Kind) (M : Meaning) (guess : ℕ → ℕ) (cap : Capacity) (start c : ℕ) (ks : List ℕ) → IsLawful M guess → Answers Idastar K M guess cap start (found c (ks ∷ [])) → 0 < length ks
path_some K M guess cap start c ks law a =
    let s = searches_right Idastar K M guess cap start law (found c (ks ∷ [])) a in
    some_keys M start ks s.routes.0.0 s.routes.0.1
