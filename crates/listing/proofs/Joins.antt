-- Sinks that join and go: none stands twice, and there is a place for each row.
use Rattle.std.proofs.Common.{◌≡◌, ℕ, ◌+◌, ◌-◌, ◌<◌, Bool, true, false, eqb, List, [], ◌∷◌, ◌++◌, length, get_or, set, take, refl, ap, ◌∙◌, subst, arith}
use Rattle.std.specs.List.{list_any, AllByRecursion, IsDistinct}
use Rattle.std.specs.Cmp.{nat_eq_equiv}
use Rattle.std.proofs.lemmas.List.{take_more, take_more_set, length-set}
use Rattle.std.proofs.lemmas.List.Folds.{list_any-append}
use Rattle.std.proofs.lemmas.Map.Keys.{IsDistinct-push}
use Rattle.std.proofs.lemmas.Map.Steps.{length-le_from_distinct_below}
use Rattle.std.proofs.lemmas.Bool.Decides.{nat_tests}
use Rattle.std.proofs.lemmas.Grind.{common_steps}
use Rattle.search.specs.Members.{has}
use Rattle.search.specs.Bag.{joined}
use Rattle.listing.specs.Sinks.{Kept}

pub kept_none : (rows : List ℕ) → Kept rows 0
unfolding IsDistinct
kept_none rows = record {
  fits = omega arith;
  once = tt;
  below = λ q e. let z : ◌≡◌ {A = ℕ} 0 1 = cc in absurd (omega arith);
}

all_front : (P : ℕ → Type 0) (xs ys : List ℕ) → AllByRecursion P (xs ++ ys) → AllByRecursion P xs
all_front P [] ys h = tt
all_front P (x ∷ xs) ys h = (h.0, all_front P xs ys h.1)

distinct_front : (xs ys : List ℕ) → IsDistinct eqb (xs ++ ys) → IsDistinct eqb xs
unfolding IsDistinct
distinct_front [] ys h = tt
distinct_front (x ∷ xs) ys h = (all_front (λ z. eqb x z ≡ false) xs ys h.0, distinct_front xs ys h.1)

flipped : (q : ℕ) (xs : List ℕ) → list_any (eqb q) xs ≡ has q xs
flipped q [] = refl
flipped q (x ∷ xs) =
    let i = flipped q xs in
    let e = nat_eq_equiv.symm q x in
    grind (arith, common_steps)

module _ (rows : List ℕ) (n : ℕ) (k : Kept rows n) where
  pub kept_less : 0 < n → Kept rows (n - 1)
  kept_less p =
      let q : n ≡ n - 1 + 1 = omega arith in
      let l : n - 1 < length rows = omega (arith, k.fits) in
      let e : take n rows ≡ take (n - 1) rows ++ get_or rows (n - 1) 0 ∷ [] = ap (λ j. take j rows) q ∙ take_more rows (n - 1) 0 l in
      record {
        fits = omega (arith, k.fits);
        once = distinct_front (take (n - 1) rows) (get_or rows (n - 1) 0 ∷ []) (subst (λ (xs : List ℕ). IsDistinct eqb xs) e k.once);
        below = λ x h. k.below x (let a = list_any-append (eqb x) (take (n - 1) rows) (get_or rows (n - 1) 0 ∷ []) in rw (e, a, h) refl);
      }

  module _ (r : ℕ) (l : r < length rows) (absent : has r (take n rows) ≡ false) where
    together : IsDistinct eqb (take n rows ++ r ∷ [])
    together = IsDistinct-push nat_eq_equiv (take n rows) r k.once (flipped r (take n rows) ∙ absent)

    all_below : (q : ℕ) → list_any (eqb q) (take n rows ++ r ∷ []) ≡ true → q < length rows
    all_below q h = two (list_any (eqb q) (take n rows)) refl
      where
        two : (b : Bool) → list_any (eqb q) (take n rows) ≡ b → q < length rows
        two true e = k.below q e
        two false e =
            let a = list_any-append (eqb q) (take n rows) (r ∷ []) in
            let z : eqb q r ≡ true = grind (arith, common_steps) in
            grind (arith, nat_tests)

    pub has_place : n < length rows
    has_place =
        let a = length-le_from_distinct_below (take n rows ++ r ∷ []) (length rows) together all_below in
        let b : length (take n rows ++ r ∷ []) ≡ n + 1 = let f = k.fits in grind (arith, common_steps) in
        omega arith

    pub kept_more : Kept (set rows n r) (n + 1)
    kept_more =
        let e = take_more_set rows n r has_place in
        record {
          fits = rw length-set (omega (arith, has_place));
          once = rw e together;
          below = λ q h. rw length-set (all_below q (rw e at h));
        }

    pub joins : take (n + 1) (set rows n r) ≡ joined r (take n rows)
    joins = rw absent (take_more_set rows n r has_place)
