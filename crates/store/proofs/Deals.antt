-- Push numbers dealt anew keep the order of the pushes.
use Rattle.std.proofs.Common.{◌≡◌, ℕ, suc, ◌<◌, ◌≤◌, Bool, ltb, List, [], ◌∷◌, map, length, refl, ap, ◌∙◌, ⊎_elim, arith}
use Rattle.std.proofs.lemmas.List.Sums.{count_by-le-length, length-filter}
use Rattle.std.specs.List.{Contains}
use Rattle.store.specs.declared.slots.Entry.{Entry}
use Rattle.store.specs.Queue.{among, by_push}
use Rattle.store.specs.Deal.{dealt, earlier}
use Rattle.store.proofs.Queues.{here, there, here_or_there, Contains-from_by_push}

pub earlier_le : {C : Type 0} (a b : ℕ) (l : List (Entry C)) → a ≤ b → earlier a l ≤ earlier b l
earlier_le a b [] le = omega arith
earlier_le a b (x ∷ xs) le = let t = earlier_le a b xs le in grind arith

pub earlier_lt : {C : Type 0} (e : Entry C) (b : ℕ) (l : List (Entry C)) → Contains l e → e.push < b → earlier e.push l < earlier b l
earlier_lt e b [] m lt = absurd (omega (arith, m.1))
earlier_lt {C} e b (x ∷ xs) m lt =
    let s = earlier_le e.push b xs (omega arith) in
    ⊎_elim (λ (q : e ≡ x). grind arith) (λ h. let t = earlier_lt e b xs h lt in grind arith) (here_or_there x xs e m)

pub earlier_fits : {C : Type 0} (e : Entry C) (l : List (Entry C)) → Contains l e → earlier e.push l < length l
earlier_fits {C} e l m =
    let test : Entry C → Bool = λ x. ltb x.push (suc e.push) in
    let s = earlier_lt e (suc e.push) l m (omega arith) in
    omega (arith, length-filter test l, count_by-le-length test l)

-- f keeps the order of the numbers of l
abbrev pub Keeps : {C : Type 0} → (ℕ → ℕ) → List (Entry C) → Type 0
Keeps {C} f l = (x y : Entry C) → Contains l x → Contains l y → x.push < y.push → f x.push < f y.push

same_test : (f : ℕ → ℕ) (a b : ℕ) → (a < b → f a < f b) → (b < a → f b < f a) → ltb (f a) (f b) ≡ ltb a b
same_test f a b up down = grind arith

among_dealt : {C : Type 0} (f : ℕ → ℕ) (x : Entry C) (l : List (Entry C)) → ((y : Entry C) → Contains l y → (x.push < y.push → f x.push < f y.push) × (y.push < x.push → f y.push < f x.push)) → among (dealt f x) (map (dealt f) l) ≡ map (dealt f) (among x l)
among_dealt f x [] k = refl
among_dealt {C} f x (y ∷ ys) k =
    let t = same_test f x.push y.push (k y (here y ys)).0 (k y (here y ys)).1 in
    let rest = among_dealt f x ys (λ z m. k z (there y ys z m)) in
    grind arith

-- the order of the pushes stays
pub by_push_dealt : {C : Type 0} (f : ℕ → ℕ) (l : List (Entry C)) → Keeps f l → by_push (map (dealt f) l) ≡ map (dealt f) (by_push l)
by_push_dealt f [] k = refl
by_push_dealt f (x ∷ xs) k =
    ap (among (dealt f x)) (by_push_dealt f xs (λ a b ma mb. k a b (there x xs a ma) (there x xs b mb)))
    ∙ among_dealt f x (by_push xs) (λ y m. let m' = there x xs y (Contains-from_by_push y xs m) in let h = here x xs in (k x y h m', k y x m' h))
