-- Where all parents are kept and the search is guided, each lightest route is listed, once those that still wait are past
-- its weight.
use Rattle.std.proofs.Common.{◌≡◌, ℕ, zero, suc, ◌+◌, ◌<◌, ◌≤◌, List, [], ◌∷◌, length, refl, inl, inr, arith}
use Rattle.graph.specs.Meaning.{Meaning, IsLawful}
use Rattle.graph.specs.Routes.{Weighs, IsTrueGuess}
use Rattle.search.specs.Roads.{all}
use Rattle.search.specs.Laws.{Lists}
use Rattle.search.specs.Rows.{Row, latest_first, routes_to}
use Rattle.search.specs.Members.{In, Distinct}
use Rattle.search.proofs.Places.{At}
use Rattle.search.proofs.Paths.{Path, path_of, weigh}
use Rattle.search.proofs.Invariant.{Inv, AllDue, Reached, Settled, Chain, root, up}
use Rattle.search.proofs.Chains.{keys, walk, short}
use Rattle.search.proofs.Listed.{listed, once, apart, latest_in, latest_once}
use Rattle.search.proofs.Shown.{Sink, Low}

abbrev rest : List ℕ → List ℕ
rest [] = []
rest (k ∷ ks) = ks

head : {M : Meaning} {k : ℕ} {ks : List ℕ} {v : ℕ} → Path M k ks v → ks ≡ k ∷ rest ks
head (Path.ends h g) = refl
head (Path.goes rank h e p) = refl

module _ (M : Meaning) (guess : ℕ → ℕ) (law : IsLawful M guess) (Guided : Type 0) (guided : Guided → IsTrueGuess M guess) (start : ℕ) (sinks : List ℕ) (Waits : ℕ → Type 0) (rows : List Row) (inv : Inv all M start (λ j. In j sinks) AllDue Waits rows) where
  -- a chain goes on to a row that it is a parent of
  on : (m : ℕ) (q : Row) → At rows m q → (j : ℕ) → In j q.parents → (d : Chain rows j) → (e : Chain rows m) × ((acc : List ℕ) → keys start e acc ≡ keys start d (q.key ∷ acc))
  unfolding keys
  on zero q a j h d = absurd (let t = inv.tree.root in grind arith)
  on (suc m) q a j h d = (up q a j h d, λ acc. refl)

  module _ (c : ℕ) (t : IsTrueGuess M guess) (low : (ks : List ℕ) (w : ℕ) → Weighs M start ks w → c ≤ w) (past : (j : ℕ) (q : Row) → At rows j q → Waits j → c < q.cost + guess q.key) where
    settled : (j : ℕ) (r : Row) → At rows j r → (ks : List ℕ) (v : ℕ) → Path M r.key ks v → r.cost + v ≤ c → Settled all M (In j sinks) (AllDue j) rows j r
    settled j r a ks v p l = elim (inv.settled j r a) [
      | inl b ↦ let u = weigh M guess law p in absurd (omega (arith, past j r a b, t r.key ks u.0 (inv.tree.held j r a) u.1, u.2))
      | inr b ↦ b
    ]

    every : {k : ℕ} {ks : List ℕ} {v : ℕ} → Path M k ks v → (j : ℕ) (r : Row) → At rows j r → r.key ≡ k → r.cost + v ≤ c → (d : Chain rows j)
        → (s : ℕ) × In s sinks × (e : Chain rows s) × (keys start e [] ≡ keys start d (rest ks))
    every (Path.ends {k = k} h g) j r a q l d = let b = settled j r a (k ∷ []) 0 (rw q (Path.ends h g)) l in (j, b.goal (cc), d, refl)
    every (Path.goes {k = k} {to = to} {w = w} {v = v} {ks = ks} rank h e p) j r a q l d =
        let b = settled j r a (k ∷ ks) (w + v) (rw q (Path.goes rank h e p)) l in
        let f : Reached all rows j to (r.cost + w) = b.followed rank to w tt (cc) in
        let z : ks ≡ f.row.key ∷ rest ks = cc (head p) in
        let x = walk M start rows inv.tree (inv.tree.chained f.at f.row f.there) f.row f.there (rest ks) v (rw f.same (rw (head p) at p)) in
        let y = weigh M guess law x.1 in
        let exact : f.row.cost ≡ r.cost + w = omega (arith, low _ y.0 y.1, y.2, x.2, f.within) in
        let n = on f.at f.row f.there j (f.linked refl exact) d in
        let o = every p f.at f.row f.there f.same (omega arith) n.0 in
        (o.0, o.1, o.2, cc (o.3, n.1 (rest ks), z))

  pub lists_all : (c : ℕ) → Distinct sinks → ((j : ℕ) → In j sinks → Sink M Guided start rows j) → Low M Guided start c → ((j : ℕ) (q : Row) → At rows j q → Waits j → c < q.cost + guess q.key)
      → Lists all M Guided start c (latest_first (routes_to rows) sinks)
  unfolding keys
  lists_all c d each low past = (
    latest_once (routes_to rows) sinks d
        (λ j h. once M start rows inv.tree (length rows) j (each j h).row (each j h).there [])
        (λ j k h g ks x y. apart M start rows inv.tree j k (each j h).row (each k g).row (each j h).there (each k g).there (length rows) (length rows) [] ks x y),
    λ t ks w.
        let o = every c (guided t) (low t) past (path_of M w) 0 _ inv.tree.root refl (omega arith) root in
        let z : ks ≡ keys start o.2 [] = cc (head (path_of M w)) in
        rw z (latest_in _ (routes_to rows) sinks o.0 o.1 (listed M start rows inv.tree o.2 (length rows) (short all inv.tree o.2) [])),
  )
