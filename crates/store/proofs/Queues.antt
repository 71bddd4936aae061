-- Lists in the order of the pushes.
use Rattle.std.proofs.Common.{◌≡◌, ℕ, zero, suc, ◌<◌, false, ltb, eqb, ◌⊎◌, List, [], ◌∷◌, sym, refl, inl, inr, ⊎_elim, arith}
use Rattle.std.specs.List.{Contains, IsDistinct}
use Rattle.std.specs.List.Sorted.{IsPermutation}
use Rattle.std.proofs.lemmas.Bool.{cond_both, eqb-false}
use Rattle.std.proofs.lemmas.List.Elements.{All-contains, All-from_recursion, Contains-append_right}
use Rattle.std.proofs.lemmas.List.Sorted.{Contains-permutation, IsPermutation-cons, IsPermutation-middle, IsPermutation-refl, IsPermutation-sym, IsPermutation-trans}
use Rattle.std.proofs.lemmas.Map.Keys.{IsDistinct-head, IsDistinct-tail, IsDistinct-IsPermutation}
use Rattle.store.specs.declared.slots.Entry.{Entry}
use Rattle.store.specs.Slots.{IsApart}
use Rattle.store.specs.Queue.{among, by_push}

-- the first of a list is in it, and so is what the rest has
module _ {X : Type 0} where
  pub here : (x : X) (xs : List X) → Contains (x ∷ xs) x
  here x xs = (0, omega arith, refl)

  pub there : (y : X) (xs : List X) (x : X) → Contains xs x → Contains (y ∷ xs) x
  there y = Contains-append_right (y ∷ [])

  pub here_or_there : (y : X) (xs : List X) (x : X) → Contains (y ∷ xs) x → (x ≡ y) ⊎ Contains xs x
  here_or_there y xs x (zero, l, q) = inl (sym q)
  here_or_there y xs x (suc k, l, q) = inr (k, omega arith, q)

-- strictly by push number
abbrev pub IsClimbing : {C : Type 0} → List (Entry C) → Type 0
IsClimbing [] = Unit {0}
IsClimbing {C} (x ∷ xs) = ((y : Entry C) → Contains xs y → x.push < y.push) × IsClimbing xs

-- an order by push number only moves entries
among_moves : {C : Type 0} (x : Entry C) (l : List (Entry C)) → IsPermutation (x ∷ l) (among x l)
among_moves x [] = IsPermutation-refl (x ∷ [])
among_moves x (y ∷ ys) =
    cond_both (ltb x.push y.push) (x ∷ y ∷ ys) (y ∷ among x ys) (IsPermutation (x ∷ y ∷ ys))
    (λ _. IsPermutation-refl (x ∷ y ∷ ys))
    (λ _. IsPermutation-trans _ _ _ (IsPermutation-sym _ _ (IsPermutation-middle (y ∷ []) x ys)) (IsPermutation-cons y _ _ (among_moves x ys)))

pub by_push_moves : {C : Type 0} (l : List (Entry C)) → IsPermutation l (by_push l)
by_push_moves [] = IsPermutation-refl []
by_push_moves (x ∷ xs) = IsPermutation-trans _ _ _ (IsPermutation-cons x _ _ (by_push_moves xs)) (among_moves x (by_push xs))

pub Contains-from_by_push : {C : Type 0} (z : Entry C) (l : List (Entry C)) → Contains (by_push l) z → Contains l z
Contains-from_by_push z l = Contains-permutation (by_push l) l z (IsPermutation-sym l (by_push l) (by_push_moves l))

pub Contains-by_push : {C : Type 0} (z : Entry C) (l : List (Entry C)) → Contains l z → Contains (by_push l) z
Contains-by_push z l = Contains-permutation l (by_push l) z (by_push_moves l)

climb_among : {C : Type 0} (x : Entry C) (l : List (Entry C)) → ((y : Entry C) → Contains l y → y.push ≡ x.push → ⊥) → IsClimbing l → IsClimbing (among x l)
climb_among x [] ne c = (λ y m. absurd (omega (arith, m.1)), tt)
climb_among x (y ∷ ys) ne c =
    cond_both (ltb x.push y.push) (x ∷ y ∷ ys) (y ∷ among x ys) IsClimbing
    (λ t. (λ z m. ⊎_elim (λ (q : z ≡ y). grind arith) (λ h. let k = c.0 z h in grind arith) (here_or_there y ys z m), c))
    (λ t. (
      λ z m.
          let ny = ne y (here y ys) in
          let o = Contains-permutation (among x ys) (x ∷ ys) z (IsPermutation-sym _ _ (among_moves x ys)) m in
          ⊎_elim (λ (q : z ≡ x). grind arith) (c.0 z) (here_or_there x ys z o),
      climb_among x ys (λ z h. ne z (there y ys z h)) c.1,
    ))

-- what differs in f at each two places differs at the first and another
pub head_differs : {X : Type 0} (f : X → ℕ) (x y : X) (xs : List X) → IsDistinct (λ a b. eqb (f a) (f b)) (x ∷ xs) → Contains xs y → f y ≡ f x → ⊥
head_differs f x y xs d m q =
    eqb-false (f x) (f y) (All-contains (λ b. eqb (f x) (f b) ≡ false) xs y (All-from_recursion (λ b. eqb (f x) (f b) ≡ false) xs (IsDistinct-head (λ a b. eqb (f a) (f b)) x xs d)) m) (sym q)

pub climb_by_push : {C : Type 0} (l : List (Entry C)) → IsApart l → IsClimbing (by_push l)
climb_by_push [] a = tt
climb_by_push {C} (x ∷ xs) a =
    climb_among x (by_push xs) (λ y m. head_differs (λ (e : Entry C). e.push) x y xs a (Contains-from_by_push y xs m)) (climb_by_push xs (IsDistinct-tail (λ (a b : Entry C). eqb a.push b.push) x xs a))

-- two climbing lists with the same members are one
climb_unique : {C : Type 0} (xs ys : List (Entry C)) → IsClimbing xs → IsClimbing ys → ((z : Entry C) → Contains xs z → Contains ys z) → ((z : Entry C) → Contains ys z → Contains xs z) → xs ≡ ys
climb_unique [] [] c d p q = refl
climb_unique [] (y ∷ ys) c d p q = absurd (omega (arith, (q y (here y ys)).1))
climb_unique (x ∷ xs) [] c d p q = absurd (omega (arith, (p x (here x xs)).1))
climb_unique {C} (x ∷ xs) (y ∷ ys) c d p q =
    let px = here_or_there y ys x (p x (here x xs)) in
    let qy = here_or_there x xs y (q y (here y ys)) in
    let e : x ≡ y = ⊎_elim (λ (r : x ≡ y). r) (λ hx. ⊎_elim (λ (r : y ≡ x). sym r) (λ hy. absurd (omega (arith, c.0 y hy, d.0 x hx))) qy) px in
    let up : (z : Entry C) → Contains xs z → Contains ys z = λ z m. let a = c.0 z m in ⊎_elim (λ (r : z ≡ y). absurd (grind arith)) (λ h. h) (here_or_there y ys z (p z (there x xs z m))) in
    let down : (z : Entry C) → Contains ys z → Contains xs z = λ z m. let a = d.0 z m in ⊎_elim (λ (r : z ≡ x). absurd (grind arith)) (λ h. h) (here_or_there x xs z (q z (there y ys z m))) in
    let r = climb_unique xs ys c.1 d.1 up down in
    cc

pub differ_permuted : {C : Type 0} (f : Entry C → ℕ) (xs ys : List (Entry C)) → IsPermutation xs ys → IsDistinct (λ a b. eqb (f a) (f b)) xs → IsDistinct (λ a b. eqb (f a) (f b)) ys
differ_permuted f = IsDistinct-IsPermutation (λ a b. eqb (f a) (f b)) (λ a b. grind arith)

-- the order of the pushes is one, whatever the places are
pub by_push_permuted : {C : Type 0} (xs ys : List (Entry C)) → IsPermutation xs ys → IsApart xs → by_push xs ≡ by_push ys
by_push_permuted {C} xs ys p a =
    climb_unique (by_push xs) (by_push ys) (climb_by_push xs a) (climb_by_push ys (differ_permuted (λ (e : Entry C). e.push) xs ys p a))
    (λ z m. Contains-by_push z ys (Contains-permutation xs ys z p (Contains-from_by_push z xs m)))
    (λ z m. Contains-by_push z xs (Contains-permutation ys xs z (IsPermutation-sym xs ys p) (Contains-from_by_push z ys m)))
