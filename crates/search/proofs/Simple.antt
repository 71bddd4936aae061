-- Every route contains one of the same ends that weighs no more and comes to no key twice.
use Rattle.std.proofs.Common.{◌≡◌, ℕ, ◌+◌, ◌≤◌, false, List, [], ◌∷◌, ◌++◌, inl, inr, refl, arith}
use Rattle.std.proofs.lemmas.Bool.{cases_Bool}
use Rattle.graph.specs.Meaning.{Meaning}
use Rattle.search.specs.Members.{In, Distinct, has}
use Rattle.search.proofs.Places.{has_in}
use Rattle.search.proofs.Paths.{Path}

-- no key twice, and none that was seen before
abbrev pub Clear : List ℕ → List ℕ → Type 0
Clear seen [] = Unit {0}
Clear seen (k ∷ ks) = (has k seen ≡ false) × Clear (seen ++ k ∷ []) ks

has_push : (j k : ℕ) (ks : List ℕ) → has j ks ≡ false → (k ≡ j → ⊥) → has j (ks ++ k ∷ []) ≡ false
has_push j k [] e n = grind arith
has_push j k (x ∷ ks) e n = grind (arith, has_push j k ks)

pub has_other : (j k : ℕ) (ks : List ℕ) → (In k ks → ⊥) → In j ks → has j (k ∷ []) ≡ false
has_other j k ks n i = let m : j ≡ k → ⊥ = λ q. n (rw q at i) in grind arith

pub clear : (seen ks : List ℕ) → Distinct ks → ((j : ℕ) → In j ks → has j seen ≡ false) → Clear seen ks
clear seen [] a f = tt
clear seen (k ∷ ks) a f = (f k (inl refl), clear (seen ++ k ∷ []) ks a.1 (λ j i. has_push j k seen (f j (inr i)) (λ e. a.0 (rw e i))))

-- a route from a key that weighs no more than v and comes to no key twice
pub record Simple (M : Meaning) (k v : ℕ) : Type 0 where
  pub keys : List ℕ
  pub weight : ℕ
  pub path : Path M k keys weight
  pub apart : Distinct keys
  pub within : weight ≤ v

module _ (M : Meaning) where
  -- from a key on the way
  cut : {k : ℕ} {ks : List ℕ} {v : ℕ} → Path M k ks v → Distinct ks → (x : ℕ) → In x ks → Simple M x v
  cut (Path.ends {k = k} h g) a x (inl e) = rw e (record { keys = k ∷ []; weight = 0; path = Path.ends h g; apart = a; within = omega arith })
  cut (Path.ends h g) a x (inr i) = absurd i
  cut (Path.goes {k = k} {w = w} {v = v} {ks = ks} rank h e p) a x (inl q) = rw q (record { keys = k ∷ ks; weight = w + v; path = Path.goes rank h e p; apart = a; within = omega arith })
  cut (Path.goes rank h e p) a x (inr i) = let c = cut p a.1 x i in record { keys = c.keys; weight = c.weight; path = c.path; apart = c.apart; within = omega arith }

  pub simple : {k : ℕ} {ks : List ℕ} {v : ℕ} → Path M k ks v → Simple M k v
  simple (Path.ends {k = k} h g) = record { keys = k ∷ []; weight = 0; path = Path.ends h g; apart = (λ h. h, tt); within = omega arith }
  simple (Path.goes {k = k} {w = w} rank h e p) =
      let c = simple p in
      elim (cases_Bool (has k c.keys)) [
        | inl t ↦ let d = cut c.path c.apart k ((has_in k c.keys).0 t) in record { keys = d.keys; weight = d.weight; path = d.path; apart = d.apart; within = omega arith }
        | inr f ↦ record { keys = k ∷ c.keys; weight = w + c.weight; path = Path.goes rank h e c.path; apart = (λ h. let t = (has_in k c.keys).1 h in cc, c.apart); within = omega arith }
      ]
