-- The walks along the chosen route and along the latest parents, step by step.
use Rattle.std.proofs.Common.{◌≡◌, ℕ, zero, suc, ◌+◌, ◌<◌, ◌≤◌, cond, ltb, List, [], ◌∷◌, length, set, drop, Some, None, Option, sym, refl, ap, ◌∙◌, subst, inl, inr, arith}
use Rattle.std.specs.Prelude.{slice_get}
use Rattle.std.proofs.lemmas.List.{get_or-set_same, length-set}
use Rattle.std.proofs.lemmas.Grind.{common_steps}
use Rattle.links.specs.declared.parents.Keeps.{Keeps}
use Rattle.links.specs.Parentages.{Parentage}
use Rattle.listing.specs.Routes.{or_else, may, turn, follow, trail}
use Rattle.search.specs.Members.{In}
use Rattle.links.specs.Listings.{at}
use Rattle.listing.specs.Odometer.{End, SoundOf, Sound, anew}
use Rattle.listing.proofs.Turns.{in_end}

pub or_none : (o : Option ℕ) → or_else o None ≡ o
or_none None = refl
or_none (Some x) = refl

or_some : (o : Option ℕ) (r : ℕ) (b : Option ℕ) → or_else (or_else o (Some r)) b ≡ or_else o (Some r)
or_some None r b = refl
or_some (Some x) r b = refl

abbrev pub older : List ℕ → ℕ → Option ℕ → Option ℕ
older [] r best = best
older (p ∷ []) r best = best
older (p ∷ q ∷ qs) r best = Some r

pub older_is : (cs : List ℕ) (r : ℕ) (best : Option ℕ) → cond (ltb 1 (length cs)) (Some r) best ≡ older cs r best
older_is [] r best = refl
older_is (p ∷ []) r best = refl
older_is (p ∷ q ∷ qs) r best = grind (arith, common_steps)

module _ (par ch : ℕ → List ℕ) where
  pub sound_down : (n r p : ℕ) (qs : List ℕ) → ch r ≡ p ∷ qs → Sound par ch (suc n) r → End (p ∷ qs) (par r) × Sound par ch n p
  sound_down n r p qs e s = subst (λ (l : List ℕ). SoundOf l (par r) (λ x. Sound par ch n x)) e s

  pub parent_in : (r p : ℕ) (qs : List ℕ) → End (p ∷ qs) (par r) → In p (par r)
  parent_in r p qs e = subst (λ (x : List ℕ). In p x) (sym e.1) (in_end p (p ∷ qs) e.0 (inl refl))

  pub turn_end : (n r : ℕ) → ch r ≡ [] → turn ch n r ≡ None
  unfolding turn
  turn_end zero r e = refl
  turn_end (suc n) r e = ap (λ l. may l r (λ p. turn ch n p)) e

  pub turn_down : (n r p : ℕ) (ps : List ℕ) (best : Option ℕ) → ch r ≡ p ∷ ps → or_else (turn ch (suc n) r) best ≡ or_else (turn ch n p) (older (p ∷ ps) r best)
  unfolding turn
  turn_down n r p [] best e = ap (λ l. or_else (may l r (λ p. turn ch n p)) best) e
  turn_down n r p (q ∷ qs) best e = ap (λ l. or_else (may l r (λ p. turn ch n p)) best) e ∙ or_some (turn ch n p) r best

  pub trail_end : (n r : ℕ) (acc : List ℕ) → ch r ≡ [] → trail ch (suc n) r acc ≡ r ∷ acc
  unfolding trail
  trail_end n r acc e = ap (λ l. follow l (r ∷ acc) (λ p. trail ch n p (r ∷ acc))) e

  pub trail_down : (n r p : ℕ) (ps acc : List ℕ) → ch r ≡ p ∷ ps → trail ch (suc n) r acc ≡ trail ch n p (r ∷ acc)
  unfolding trail
  trail_down n r p ps acc e = ap (λ l. follow l (r ∷ acc) (λ p. trail ch n p (r ∷ acc))) e

  pub trail_zero : (r : ℕ) (acc : List ℕ) → trail ch 0 r acc ≡ acc
  unfolding trail
  trail_zero r acc = refl

  pub length_trail : (n r : ℕ) (acc : List ℕ) → length (trail ch n r acc) ≡ length (trail ch n r []) + length acc
  unfolding trail
  length_trail zero r acc = omega arith
  length_trail (suc n) r acc = go (λ p acc. length_trail n p acc) (ch r)
    where
      go : ((p : ℕ) (acc : List ℕ) → length (trail ch n p acc) ≡ length (trail ch n p []) + length acc) → (cs : List ℕ) → length (follow cs (r ∷ acc) (λ p. trail ch n p (r ∷ acc))) ≡ length (follow cs (r ∷ []) (λ p. trail ch n p (r ∷ []))) + length acc
      go ih [] = omega arith
      go ih (p ∷ ps) = omega (arith, ih p (r ∷ acc), ih p (r ∷ []))

module _ (par : ℕ → List ℕ) where
  pub anew_zero : (r : ℕ) (left : List (List ℕ)) → anew par 0 r left ≡ left
  unfolding anew
  anew_zero r left = refl

  pub anew_end : (n r : ℕ) (left : List (List ℕ)) → par r ≡ [] → anew par (suc n) r left ≡ set left r (par r)
  unfolding anew
  anew_end n r left e = ap (λ l. follow l (set left r (par r)) (λ p. anew par n p (set left r (par r)))) e

  pub anew_down : (n r p : ℕ) (ps : List ℕ) (left : List (List ℕ)) → par r ≡ p ∷ ps → anew par (suc n) r left ≡ anew par n p (set left r (par r))
  unfolding anew
  anew_down n r p ps left e = ap (λ l. follow l (set left r (par r)) (λ p. anew par n p (set left r (par r)))) e

-- what `slice_get` of the first shows
pub get_none : (cs : List ℕ) → None ≡ slice_get cs 0 → cs ≡ []
get_none [] e = refl
get_none (c ∷ cs) e = cc

pub get_some : (cs : List ℕ) (p : ℕ) → Some p ≡ slice_get cs 0 → (ps : List ℕ) × (cs ≡ p ∷ ps)
get_some [] p e = cc
get_some (c ∷ cs) p e = (cs, grind (arith, common_steps))

-- what a walk of at most n steps keeps
abbrev pub Turning : (par ch : ℕ → List ℕ) → Option ℕ → (n step row : ℕ) → Option ℕ → Type 0
Turning par ch T n step row best = (m : ℕ) × (m + step ≡ n) × (row < n) × Sound par ch m row × (or_else (turn ch m row) best ≡ T)

abbrev pub Measuring : (par ch : ℕ → List ℕ) → ℕ → (n step row : ℕ) → Type 0
Measuring par ch T n step row = (m : ℕ) × (m + step ≡ n) × (row < n) × Sound par ch m row × (length (trail ch m row []) + step ≡ T)

-- so many rows are left to write before acc
abbrev pub Writing : (par ch : ℕ → List ℕ) → List ℕ → (n place row : ℕ) → List ℕ → Type 0
Writing par ch T n place row acc = (m : ℕ) × (row < n) × Sound par ch m row × (length (trail ch m row []) ≡ place) × (trail ch m row acc ≡ T)

abbrev pub Beginning : (par : ℕ → List ℕ) → List (List ℕ) → (n step row : ℕ) → List (List ℕ) → Type 0
Beginning par T n step row left = (m : ℕ) × (m + step ≡ n) × (row < n) × (length left ≡ n) × (anew par m row left ≡ T)

module _ (par ch : ℕ → List ℕ) (n : ℕ) (inside : (r p : ℕ) → In p (par r) → p < n) (step row : ℕ) where
  pub turning_none : (T best : Option ℕ) → step < n → None ≡ slice_get (ch row) 0 → Turning par ch T n step row best → best ≡ T
  turning_none T best l e w = sym (ap (λ o. or_else o best) (turn_end par ch w.0 row (get_none (ch row) e))) ∙ w.4

  pub turning_out : (T best : Option ℕ) → n ≤ step → Turning par ch T n step row best → best ≡ T
  unfolding turn
  turning_out T best l (zero, e, i, s, t) = t
  turning_out T best l (suc m, e, i, s, t) = absurd (omega arith)

  pub turning_some : (T best : Option ℕ) (p : ℕ) → step < n → Some p ≡ slice_get (ch row) 0 → Turning par ch T n step row best → Turning par ch T n (step + 1) p (older (ch row) row best)
  turning_some T best p l e (zero, a, i, s, t) = absurd (omega arith)
  turning_some T best p l e (suc m, a, i, s, t) =
      let o = get_some (ch row) p e in
      let d = sound_down par ch m row p o.0 o.1 s in
      (m, omega arith, inside row p (parent_in par ch row p o.0 d.0), d.1, rw (o.1, ← turn_down par ch m row p o.0 best o.1) t)

  pub measuring_none : (T : ℕ) → step < n → None ≡ slice_get (ch row) 0 → Measuring par ch T n step row → step + 1 ≡ T
  measuring_none T l e (zero, a, i, s, t) = absurd (omega arith)
  measuring_none T l e (suc m, a, i, s, t) = omega (arith, ap length (trail_end par ch m row [] (get_none (ch row) e)))

  pub measuring_out : (T : ℕ) → n ≤ step → Measuring par ch T n step row → n ≡ T
  measuring_out T l (zero, a, i, s, t) = omega (arith, ap length (trail_zero par ch row []))
  measuring_out T l (suc m, a, i, s, t) = absurd (omega arith)

  pub measuring_some : (T p : ℕ) → step < n → Some p ≡ slice_get (ch row) 0 → Measuring par ch T n step row → Measuring par ch T n (step + 1) p
  measuring_some T p l e (zero, a, i, s, t) = absurd (omega arith)
  measuring_some T p l e (suc m, a, i, s, t) =
      let o = get_some (ch row) p e in
      let d = sound_down par ch m row p o.0 o.1 s in
      let x = ap length (trail_down par ch m row p o.0 [] o.1) in
      let y = length_trail par ch m p (row ∷ []) in
      (m, omega arith, inside row p (parent_in par ch row p o.0 d.0), d.1, omega arith)

module _ (par ch : ℕ → List ℕ) (n : ℕ) (inside : (r p : ℕ) → In p (par r) → p < n) (row : ℕ) (T acc : List ℕ) where
  pub writing_out : Writing par ch T n 0 row acc → acc ≡ T
  unfolding trail
  writing_out (zero, i, s, a, t) = t
  writing_out (suc m, i, s, a, t) = go (ch row) refl a
    where
      go : (cs : List ℕ) → ch row ≡ cs → length (follow cs (row ∷ []) (λ p. trail ch m p (row ∷ []))) ≡ 0 → acc ≡ T
      go [] e z = absurd (omega arith)
      go (p ∷ ps) e z = absurd (omega (arith, length_trail par ch m p (row ∷ [])))

  pub writing_none : (place : ℕ) → None ≡ slice_get (ch row) 0 → Writing par ch T n (place + 1) row acc → Writing par ch T n place row (row ∷ acc)
  writing_none place e (zero, i, s, a, t) = absurd (omega (arith, ap length (trail_zero par ch row [])))
  writing_none place e (suc m, i, s, a, t) =
      let z = get_none (ch row) e in
      let x = ap length (trail_end par ch m row [] z) in
      let y = ap length (trail_zero par ch row []) in
      (0, i, tt, omega arith, trail_zero par ch row (row ∷ acc) ∙ sym (trail_end par ch m row acc z) ∙ t)

  pub writing_some : (place p : ℕ) → Some p ≡ slice_get (ch row) 0 → Writing par ch T n (place + 1) row acc → Writing par ch T n place p (row ∷ acc)
  writing_some place p e (zero, i, s, a, t) = absurd (omega (arith, ap length (trail_zero par ch row [])))
  writing_some place p e (suc m, i, s, a, t) =
      let o = get_some (ch row) p e in
      let d = sound_down par ch m row p o.0 o.1 s in
      let x = ap length (trail_down par ch m row p o.0 [] o.1) in
      let y = length_trail par ch m p (row ∷ []) in
      (m, inside row p (parent_in par ch row p o.0 d.0), d.1, omega arith, sym (trail_down par ch m row p o.0 acc o.1) ∙ t)

module _ (par : ℕ → List ℕ) (n : ℕ) (inside : (r p : ℕ) → In p (par r) → p < n) (step row : ℕ) (T left : List (List ℕ)) where
  first_left : length left ≡ n → row < n → at (set left row (par row)) row ≡ par row
  first_left e l = get_or-set_same left row (par row) [] (omega arith)

  pub beginning_none : step < n → None ≡ slice_get (at (set left row (par row)) row) 0 → Beginning par T n step row left → set left row (par row) ≡ T
  beginning_none l e (zero, a, i, s, t) = absurd (omega arith)
  beginning_none l e (suc m, a, i, s, t) = sym (anew_end par m row left (sym (first_left s i) ∙ get_none _ e)) ∙ t

  pub beginning_out : n ≤ step → Beginning par T n step row left → left ≡ T
  beginning_out l (zero, a, i, s, t) = sym (anew_zero par row left) ∙ t
  beginning_out l (suc m, a, i, s, t) = absurd (omega arith)

  pub beginning_some : (p : ℕ) → step < n → Some p ≡ slice_get (at (set left row (par row)) row) 0 → Beginning par T n step row left → Beginning par T n (step + 1) p (set left row (par row))
  beginning_some p l e (zero, a, i, s, t) = absurd (omega arith)
  beginning_some p l e (suc m, a, i, s, t) =
      let o = get_some _ p e in
      let q : par row ≡ p ∷ o.0 = sym (first_left s i) ∙ o.1 in
      (m, omega arith, inside row p (subst (λ (x : List ℕ). In p x) (sym q) (inl refl)), length-set left row (par row) ∙ s, sym (anew_down par m row p o.0 left q) ∙ t)

abbrev made : List (List ℕ) → List (List ℕ) → ℕ → ℕ → Keeps → Parentage
made a b c d k = record { lists = a; left = b; room = c; rows = d; keeps = k }

pub same_parentage : (v w : Parentage) → v.lists ≡ w.lists → v.left ≡ w.left → v.room ≡ w.room → v.rows ≡ w.rows → v.keeps ≡ w.keeps → v ≡ w
same_parentage v w a b c d k =
    ap (λ x. made x v.left v.room v.rows v.keeps) a
    ∙ ap (λ x. made w.lists x v.room v.rows v.keeps) b
    ∙ ap (λ x. made w.lists w.left x v.rows v.keeps) c
    ∙ ap (λ x. made w.lists w.left w.room x v.keeps) d
    ∙ ap (λ x. made w.lists w.left w.room w.rows x) k

-- after the chosen parent of a row was passed, the next is a parent too
pub passed_in : (ps cs : List ℕ) (p : ℕ) → 0 < length cs → End cs ps → Some p ≡ slice_get (drop 1 cs) 0 → In p ps
passed_in ps [] p l e h = absurd (omega arith)
passed_in ps (c ∷ cs) p l e h =
    let o = get_some cs p h in
    subst (λ (x : List ℕ). In p x) (sym e.1) (in_end p (c ∷ cs) e.0 (inr (rw o.1 (inl refl))))
