-- On every route from the start stands a row that waits; so nothing weighs less than what waits.
use Rattle.std.proofs.Common.{◌≡◌, ℕ, ◌+◌, ◌≤◌, ◌⊎◌, List, [], ◌∷◌, refl, inl, inr, arith}
use Rattle.graph.specs.Meaning.{Meaning, IsLawful}
use Rattle.graph.specs.Routes.{Weighs, IsTrueGuess}
use Rattle.search.specs.Rows.{Row}
use Rattle.search.specs.Roads.{Keeps}
use Rattle.search.proofs.Places.{At}
use Rattle.search.proofs.Paths.{Path, path_of, weigh}
use Rattle.search.proofs.Invariant.{Inv, Reached, AllDue}

module _ (keeps : Keeps) (M : Meaning) (start : ℕ) (Took Waits : ℕ → Type 0) (rows : List Row) (inv : Inv keeps M start Took AllDue Waits rows) where
  -- a row that waits, and a path from it: together no more than a bound
  record Frontier (bound : ℕ) : Type 0 where
    at : ℕ
    row : Row
    there : At rows at row
    waits : Waits at
    keys : List ℕ
    rest : ℕ
    path : Path M row.key keys rest
    within : row.cost + rest ≤ bound

  -- a goal that was taken, and costs no more
  record Goal (bound : ℕ) : Type 0 where
    at : ℕ
    row : Row
    there : At rows at row
    took : Took at
    within : row.cost ≤ bound

  frontier : {k : ℕ} {ks : List ℕ} {v : ℕ} → Path M k ks v → (j : ℕ) (r : Row) → At rows j r → r.key ≡ k → (bound : ℕ) → r.cost + v ≤ bound → Frontier bound ⊎ Goal bound
  frontier (Path.ends {k = k} h g) j r a q bound l = elim (inv.settled j r a) [
    | inl b ↦ inl (record { at = j; row = r; there = a; waits = b; keys = k ∷ []; rest = 0; path = rw q (Path.ends h g); within = l })
    | inr b ↦ inr (record { at = j; row = r; there = a; took = b.goal (cc); within = omega arith })
  ]
  frontier (Path.goes {k = k} {to = to} {w = w} {v = v} {ks = ks} rank h e p) j r a q bound l = elim (inv.settled j r a) [
    | inl b ↦ inl (record { at = j; row = r; there = a; waits = b; keys = k ∷ ks; rest = w + v; path = rw q (Path.goes rank h e p); within = l })
    | inr b ↦ let f : Reached keeps rows j to (r.cost + w) = b.followed rank to w tt (cc) in frontier p f.at f.row f.there f.same bound (omega (arith, f.within))
  ]

  from_start : {ks : List ℕ} {w : ℕ} → Weighs M start ks w → Frontier w ⊎ Goal w
  from_start {w = w} h = frontier (path_of M h) 0 _ inv.tree.root refl w (omega arith)

  -- nothing waits, and no goal was taken: no route begins at the start
  pub no_route : ((j : ℕ) → Waits j → ⊥) → ((j : ℕ) → Took j → ⊥) → (ks : List ℕ) (w : ℕ) → Weighs M start ks w → ⊥
  no_route waits took ks w h = elim (from_start h) [ inl f ↦ waits f.at f.waits | inr f ↦ took f.at f.took ]

  -- a true guess: what no waiting row undercuts with its guess, and no goal that was taken, no route from the start undercuts
  pub no_lighter : (guess : ℕ → ℕ) → IsLawful M guess → IsTrueGuess M guess → (bound : ℕ) → ((j : ℕ) (r : Row) → At rows j r → Waits j → bound ≤ r.cost + guess r.key) → ((j : ℕ) (r : Row) → At rows j r → Took j → bound ≤ r.cost) → (ks : List ℕ) (w : ℕ) → Weighs M start ks w → bound ≤ w
  no_lighter guess law true_guess bound waiting taken ks w h = elim (from_start h) [
    | inl f ↦
        let v = weigh M guess law f.path in
        omega (arith, waiting f.at f.row f.there f.waits, true_guess f.row.key f.keys v.0 (inv.tree.held f.at f.row f.there) v.1, v.2, f.within)
    | inr f ↦ omega (arith, taken f.at f.row f.there f.took, f.within)
  ]
