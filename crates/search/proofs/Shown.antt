-- The rows at the end of a search show what its outcome should.
use Rattle.std.proofs.Common.{◌≡◌, ℕ, ◌<◌, ◌≤◌, true, List, [], ◌∷◌, length, refl, sym, subst, inl, inr, arith}
use Rattle.graph.specs.Meaning.{Meaning, IsLawful}
use Rattle.graph.specs.Routes.{Weighs}
use Rattle.search.specs.Outcome.{found}
use Rattle.search.specs.Roads.{Keeps, one}
use Rattle.search.specs.Laws.{Lists, Shows}
use Rattle.search.specs.Rows.{Row, latest_first, routes_to}
use Rattle.search.specs.Members.{In}
use Rattle.search.proofs.Places.{At, all_in}
use Rattle.search.proofs.Paths.{Path, weigh}
use Rattle.search.proofs.Invariant.{Tree, Chain}
use Rattle.search.proofs.Chains.{keys, walk, short}
use Rattle.search.proofs.Listed.{listed, of_listed, alone, latest_in, of_latest}

-- no goal was taken
abbrev pub NoneTook : ℕ → Type 0
NoneTook j = ⊥

-- a cost that no route from the start undercuts, where the search is guided
abbrev pub Low : Meaning → (Guided : Type 0) → (start c : ℕ) → Type 0
Low M Guided start c = Guided → (ks : List ℕ) (w : ℕ) → Weighs M start ks w → c ≤ w

-- row j is a goal that was taken
pub record Sink (M : Meaning) (Guided : Type 0) (start : ℕ) (rows : List Row) (j : ℕ) : Type 0 where
  pub row : Row
  pub there : At rows j row
  pub goal : M.goal row.key ≡ true
  pub low : Low M Guided start row.cost

-- the goal that was taken last, at a cost
pub record Last (M : Meaning) (Guided : Type 0) (start : ℕ) (rows : List Row) (sinks : List ℕ) (c : ℕ) : Type 0 where
  pub at : ℕ
  pub sink : In at sinks
  pub row : Row
  pub there : At rows at row
  pub within : row.cost ≤ c
  pub low : Low M Guided start c

pub not_empty : {A : Type 0} (x : A) (xs : List A) → In x xs → 0 < length xs
not_empty x [] h = absurd h
not_empty x (y ∷ xs) h = omega arith

module _ (keeps : Keeps) (M : Meaning) (guess : ℕ → ℕ) (law : IsLawful M guess) (Guided : Type 0) (start : ℕ) (rows : List Row) (tree : Tree keeps M start rows) where
  route_of : (j : ℕ) (s : Sink M Guided start rows j) (d : Chain rows j) → (v : ℕ) × Weighs M start (keys start d []) v × (v ≤ s.row.cost)
  route_of j s d =
      let p = walk M start rows tree d s.row s.there [] 0 (Path.ends (tree.held j s.row s.there) s.goal) in
      let v = weigh M guess law p.1 in
      (v.0, v.1, omega (arith, v.2, p.2))

  module _ (sinks : List ℕ) (c : ℕ) (each : (j : ℕ) → In j sinks → Sink M Guided start rows j) (l : Last M Guided start rows sinks c) where
    -- a route that is listed weighs no more than any, where the search is guided
    weighs : (ks : List ℕ) → In ks (latest_first (routes_to rows) sinks) → (v : ℕ) × Weighs M start ks v × Low M Guided start v
    weighs ks h =
        let o = of_latest ks (routes_to rows) sinks h in
        let s = each o.0 o.1 in
        let d = of_listed M start rows tree (length rows) o.0 s.row s.there [] ks o.2 in
        let v = route_of o.0 s d.0 in
        (v.0, subst (λ (x : List ℕ). Weighs M start x v.0) (sym d.1) v.1, λ t ks' w p. omega (arith, v.2, s.low t ks' w p))

    pub shows_found : Lists keeps M Guided start c (latest_first (routes_to rows) sinks) → Shows keeps M Guided start (found c (latest_first (routes_to rows) sinks))
    shows_found lists =
        let d : Chain rows l.at = tree.chained l.at l.row l.there in
        record {
          some = not_empty (keys start d []) _ (latest_in _ (routes_to rows) sinks l.at l.sink (listed M start rows tree d (length rows) (short keeps tree d) []));
          routes = all_in _ _ (λ ks h. let w = weighs ks h in (w.0, w.1));
          lightest = λ t. record {
            weigh = all_in _ _ (λ ks h.
                let w = weighs ks h in
                let s = each l.at l.sink in
                let z : s.row ≡ l.row = let a = s.there in let b = l.there in cc in
                let v = route_of l.at s d in
                let e : w.0 ≡ c = grind (arith, w.2 t _ v.0 v.1, v.2, l.low t ks w.0 w.1) in
                rw e at w.1);
            least = l.low t;
          };
          lists = lists;
        }

module _ (M : Meaning) (guess : ℕ → ℕ) (law : IsLawful M guess) (Guided : Type 0) (start : ℕ) (rows : List Row) (tree : Tree one M start rows) where
  pub shows_one : (j : ℕ) (r : Row) → At rows j r → M.goal r.key ≡ true → Low M Guided start r.cost → Shows one M Guided start (found r.cost (routes_to rows j))
  shows_one j r a g low =
      shows_found one M guess law Guided start rows tree (j ∷ []) r.cost
      (λ k. elim [ inl e ↦ rw e (record { row = r; there = a; goal = g; low = low }) | inr h ↦ absurd h ])
      (record { at = j; sink = inl refl; row = r; there = a; within = omega arith; low = low })
      (alone tree (tree.chained j r a) (length rows) (short one tree (tree.chained j r a)) [])
