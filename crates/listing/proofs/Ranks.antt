-- A rank that falls is one below the number of rows: of each row, how many rows have a lower one.
use Rattle.std.proofs.Common.{◌≡◌, ℕ, zero, suc, ◌+◌, ◌<◌, ◌≤◌, cond, ltb, ◌⊎◌, List, [], ◌∷◌, ◌++◌, length, get_or, reverse, refl, inl, inr, subst, ⊎_elim, arith}
use Rattle.std.proofs.lemmas.List.{reverse-append}
use Rattle.std.proofs.lemmas.Bool.{cases_eq}
use Rattle.std.proofs.lemmas.Bool.Decides.{nat_tests}
use Rattle.search.specs.Members.{In}
use Rattle.listing.specs.Odometer.{Falls}
use Rattle.listing.specs.Handing.{par, Falling}

module _ (rank : ℕ → ℕ) where
  abbrev pub lower : ℕ → ℕ → ℕ
  lower x zero = 0
  lower x (suc k) = cond (ltb (rank k) x) 1 0 + lower x k

  lower_mono : (x y k : ℕ) → x ≤ y → lower x k ≤ lower y k
  lower_mono x y zero l = omega arith
  lower_mono x y (suc k) l = let i = lower_mono x y k l in grind (arith, nat_tests)

  lower_strict : (x y p k : ℕ) → p < k → rank p ≡ x → x < y → lower x k < lower y k
  lower_strict x y p zero lp e l = absurd (omega arith)
  lower_strict x y p (suc k) lp e l =
      ⊎_elim
      (λ (q : p ≡ k). let m = lower_mono x y k (omega arith) in let z : rank k ≡ x = rw (← q) e in grind (arith, nat_tests))
      (λ ne. let i = lower_strict x y p k (omega arith) e l in grind (arith, nat_tests))
      (cases_eq p k)

  lower_le : (x k : ℕ) → lower x k ≤ k
  lower_le x zero = omega arith
  lower_le x (suc k) = let i = lower_le x k in grind (arith, nat_tests)

  lower_below : (x r k : ℕ) → r < k → rank r ≡ x → lower x k < k
  lower_below x r zero lr e = absurd (omega arith)
  lower_below x r (suc k) lr e =
      ⊎_elim
      (λ (q : r ≡ k). let i = lower_le x k in let z : rank k ≡ x = rw (← q) e in grind (arith, nat_tests))
      (λ ne. let i = lower_below x r k (omega arith) e in grind (arith, nat_tests))
      (cases_eq r k)

pub in_left : (x : ℕ) (xs ys : List ℕ) → In x xs → In x (xs ++ ys)
in_left x [] ys h = absurd h
in_left x (y ∷ xs) ys (inl e) = inl e
in_left x (y ∷ xs) ys (inr h) = inr (in_left x xs ys h)

in_parts : (x : ℕ) (xs ys : List ℕ) → In x (xs ++ ys) → In x xs ⊎ In x ys
in_parts x [] ys h = inr h
in_parts x (y ∷ xs) ys (inl e) = inl (inl e)
in_parts x (y ∷ xs) ys (inr h) = elim (in_parts x xs ys h) [ inl a ↦ inl (inr a) | inr b ↦ inr b ]

pub in_reverse : (x : ℕ) (xs : List ℕ) → In x (reverse xs) → In x xs
in_reverse x [] h = h
in_reverse x (y ∷ ys) h = elim (in_parts x (reverse ys) (y ∷ []) (subst (λ (l : List ℕ). In x l) (reverse-append (y ∷ []) ys) h)) [
  | inl a ↦ inr (in_reverse x ys a)
  | inr b ↦ elim b [ inl e ↦ inl e | inr z ↦ absurd z ]
]

pub par_inside : {lists : List (List ℕ)} → Falling lists → (r p : ℕ) → In p (par lists r) → p < length lists
par_inside {lists} f r p h = f.inside r p (in_reverse p (get_or lists r []) h)

pub level : (lists : List (List ℕ)) → Falling lists → ℕ → ℕ
level lists f r = lower f.rank (f.rank r) (length lists)

pub level_falls : (lists : List (List ℕ)) (f : Falling lists) → Falls (level lists f) (par lists)
unfolding level
level_falls lists f r p h = lower_strict f.rank (f.rank p) (f.rank r) p (length lists) (par_inside f r p h) refl (f.falls r p (in_reverse p (get_or lists r []) h))

pub level_below : (lists : List (List ℕ)) (f : Falling lists) (r : ℕ) → r < length lists → level lists f r < length lists
unfolding level
level_below lists f r l = lower_below f.rank (f.rank r) r (length lists) l refl
