-- What a tree of rows gives to those that read off routes: a rank falls from each row to its parents, which are rows, and a
-- route leads to each row.
use Rattle.std.proofs.Common.{◌≡◌, ℕ, zero, suc, ◌<◌, ◌≤◌, List, [], length, map, get_or, Some, None, Option, refl, sym, subst, ap, arith}
use Rattle.std.specs.List.{slice_get}
use Rattle.std.proofs.Math.ListN.{get_or-map}
use Rattle.std.proofs.lemmas.Option.{slice_get_within, slice_get-get_or, get_or_from_slice_get, unwrap_or-slice_get}
use Rattle.graph.specs.Meaning.{Meaning}
use Rattle.search.specs.Members.{In}
use Rattle.search.specs.Rows.{Row, no_row, routes_to}
use Rattle.search.specs.Roads.{Keeps, one, all}
use Rattle.search.proofs.Places.{At}
use Rattle.search.proofs.Invariant.{Tree, Parent, Chain, root, up}
use Rattle.search.proofs.Chains.{indices, same, short}
use Rattle.search.proofs.Listed.{listed, alone}
use Rattle.search.proofs.Shown.{not_empty}

-- the parents of row i
abbrev pub parents_of : List Row → (i : ℕ) → List ℕ
parents_of rows i = (get_or rows i no_row).parents

-- the same where each row's parents stand in a list of their own
pub lists_at : (rows : List Row) (i : ℕ) → get_or (map (λ (r : Row). r.parents) rows) i [] ≡ parents_of rows i
lists_at rows i = get_or-map (λ (r : Row). r.parents) rows i no_row

-- a rank falls from each row to its parents, which are rows
pub record Falling (rows : List Row) : Type 0 where
  pub rank : ℕ → ℕ
  pub falls : (i j : ℕ) → In j (parents_of rows i) → rank j < rank i
  pub inside : (i j : ℕ) → In j (parents_of rows i) → j < length rows

absent : (rows : List Row) (i : ℕ) → slice_get rows i ≡ None → get_or rows i no_row ≡ no_row
absent rows i e = let u = unwrap_or-slice_get rows i no_row in sym (rw e at u)

-- a row that has a parent is there
there : (rows : List Row) (i j : ℕ) → In j (parents_of rows i) → At rows i (get_or rows i no_row)
there rows i j h = go (slice_get rows i) refl
  where
    go : (o : Option Row) → slice_get rows i ≡ o → At rows i (get_or rows i no_row)
    go (Some r) e = rw (get_or_from_slice_get rows i r no_row e) e
    go None e = absurd (subst (λ (r : Row). In j r.parents) (absent rows i e) h)

module _ {M : Meaning} {start : ℕ} {rows : List Row} where
  parent : {keeps : Keeps} → Tree keeps M start rows → (i j : ℕ) → In j (parents_of rows i) → Parent keeps M rows (get_or rows i no_row) j
  parent tree zero j h = absurd (let t = tree.root in let e = get_or_from_slice_get rows 0 _ no_row t in grind arith)
  parent tree (suc i) j h = tree.parents i (get_or rows (suc i) no_row) (there rows (suc i) j h) j h

  pub parents_inside : {keeps : Keeps} → Tree keeps M start rows → (i j : ℕ) → In j (parents_of rows i) → j < length rows
  parents_inside tree i j h = let f = parent tree i j h in slice_get_within rows j f.row f.there

  -- where all parents are kept, a row costs more than each of them
  pub dearer : Tree all M start rows → (i j : ℕ) → In j (parents_of rows i) → (get_or rows j no_row).cost < (get_or rows i no_row).cost
  dearer tree i j h = let f = parent tree i j h in rw (get_or_from_slice_get rows j f.row no_row f.there) (omega (arith, f.within, f.some refl))

  -- else each has at most one
  pub lone : Tree one M start rows → (i : ℕ) → length (parents_of rows i) ≤ 1
  lone tree i = go i (slice_get rows i) refl
    where
      go : (i : ℕ) (o : Option Row) → slice_get rows i ≡ o → length (parents_of rows i) ≤ 1
      go i None e = subst (λ (r : Row). length r.parents ≤ 1) (sym (absent rows i e)) (omega arith)
      go zero (Some r) e = let t = tree.root in let q = get_or_from_slice_get rows 0 _ no_row t in grind arith
      go (suc i) (Some r) e = let k = tree.kin i r e in subst (λ (x : Row). length x.parents ≤ 1) (sym (get_or_from_slice_get rows (suc i) r no_row e)) (rw k.1 (omega arith))

  -- so many rows stand on the chain of a row
  depth : {keeps : Keeps} → Tree keeps M start rows → (i : ℕ) (o : Option Row) → slice_get rows i ≡ o → ℕ
  depth tree i (Some r) e = length (indices (tree.chained i r e))
  depth tree i None e = 0

  rank_of : {keeps : Keeps} → Tree keeps M start rows → ℕ → ℕ
  rank_of tree i = depth tree i (slice_get rows i) refl

  depth_is : (tree : Tree one M start rows) (i : ℕ) (r : Row) (e : At rows i r) (o : Option Row) (q : slice_get rows i ≡ o) → depth tree i o q ≡ length (indices (tree.chained i r e))
  unfolding depth
  depth_is tree i r e (Some x) q = ap length (same tree.kin (tree.chained i x q) (tree.chained i r e) refl)
  depth_is tree i r e None q = cc

  chain_falls : (tree : Tree one M start rows) {i : ℕ} (c : Chain rows i) (j : ℕ) → In j (parents_of rows i) → (d : Chain rows j) → length (indices d) < length (indices c)
  unfolding indices
  chain_falls tree root j h d = absurd (let t = tree.root in let e = get_or_from_slice_get rows 0 _ no_row t in grind arith)
  chain_falls tree (up {i = i} r a k g c) j h d =
      let o = tree.kin i r a in
      let e = get_or_from_slice_get rows (suc i) r no_row a in
      let z : j ≡ k = grind (arith, o.1, g, h) in
      rw (same tree.kin d c z) (omega arith)

  pub falling : (keeps : Keeps) → Tree keeps M start rows → Falling rows
  unfolding rank_of
  falling all tree = record { rank = λ i. (get_or rows i no_row).cost; falls = dearer tree; inside = parents_inside tree }
  falling one tree = record {
    rank = rank_of tree;
    falls = λ i j h.
        let a = there rows i j h in
        let f = parent tree i j h in
        rw (depth_is tree i _ a _ refl, depth_is tree j f.row f.there _ refl) (chain_falls tree (tree.chained i _ a) j h (tree.chained j f.row f.there));
    inside = parents_inside tree;
  }

  -- a route leads to each row
  pub some_route : (keeps : Keeps) → Tree keeps M start rows → (i : ℕ) → i < length rows → 0 < length (routes_to rows i)
  some_route keeps tree i l =
      let c = tree.chained i _ (slice_get-get_or rows i no_row l) in
      not_empty _ _ (listed M start rows tree c (length rows) (short keeps tree c) [])

  -- and where one parent is kept, one
  pub one_route : Tree one M start rows → (i : ℕ) → i < length rows → length (routes_to rows i) ≡ 1
  one_route tree i l = let c = tree.chained i _ (slice_get-get_or rows i no_row l) in alone tree c (length rows) (short one tree c) []
