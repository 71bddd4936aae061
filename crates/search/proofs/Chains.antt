-- A chain of rows is a path from the start that weighs no more than its row costs; it has no row twice.
use Rattle.std.proofs.Common.{◌≡◌, ℕ, suc, ◌+◌, ◌<◌, ◌≤◌, true, false, eqb, List, [], ◌∷◌, length, refl, arith}
use Rattle.std.specs.List.{AllByRecursion, IsDistinct, list_any}
use Rattle.std.proofs.lemmas.Grind.{common_steps}
use Rattle.std.proofs.lemmas.Map.Steps.{length-le_from_distinct_below}
use Rattle.std.proofs.lemmas.Option.{slice_get_within}
use Rattle.graph.specs.Meaning.{Meaning}
use Rattle.search.specs.Roads.{Keeps, one, all}
use Rattle.search.specs.Rows.{Row}
use Rattle.search.proofs.Places.{At}
use Rattle.search.proofs.Paths.{Path}
use Rattle.search.proofs.Invariant.{Tree, Parent, Chain, root, up, row_of}

unfoldable pub indices : {rows : List Row} {i : ℕ} → Chain rows i → List ℕ
indices root = 0 ∷ []
indices (up {i = i} r a j h c) = suc i ∷ indices c

-- the keys along a chain, before others
unfoldable pub keys : {rows : List Row} {i : ℕ} → (start : ℕ) → Chain rows i → List ℕ → List ℕ
keys start root acc = start ∷ acc
keys start (up r a j h c) acc = keys start c (r.key ∷ acc)

module _ {keeps : Keeps} (M : Meaning) (start : ℕ) (rows : List Row) (tree : Tree keeps M start rows) where
  pub walk : {i : ℕ} (c : Chain rows i) (r : Row) → At rows i r → (acc : List ℕ) (v : ℕ) → Path M r.key (r.key ∷ acc) v → (w : ℕ) × Path M start (keys start c acc) w × (w ≤ r.cost + v)
  unfolding keys
  walk root r a acc v p = let t = tree.root in let z : r ≡ row_of start 0 [] = cc in (v, rw z at p, omega arith)
  walk (up {i = i} q b j h c) r a acc v p =
      let f : Parent keeps M rows q j = tree.parents i q b j h in
      let z : r ≡ q = cc in
      let o = walk c f.row f.there (q.key ∷ acc) (f.weight + v) (Path.goes f.rank (tree.held j f.row f.there) f.road (rw z at p)) in
      (o.0, o.1, grind (arith, o.2, f.within))

-- ---- a chain has no row twice, and so is no longer than the rows
-- each row but the start has one parent
abbrev pub Lone : List Row → Type 0
Lone rows = (i : ℕ) (r : Row) → At rows (suc i) r → (j : ℕ) × (r.parents ≡ j ∷ [])

pub same : {rows : List Row} → Lone rows → {i j : ℕ} (c : Chain rows i) (d : Chain rows j) → i ≡ j → indices c ≡ indices d
unfolding indices
same lone root root e = refl
same lone root (up r a k h d) e = absurd (omega arith)
same lone (up r a k h c) root e = absurd (omega arith)
same lone (up {i = i} r a k h c) (up {i = m} q b l g d) e =
    let z : r ≡ q = cc in
    let o = lone i r a in
    let y : k ≡ l = grind (arith, o.1, h, g) in
    cc (same lone c d y)

apart_lone : {rows : List Row} → Lone rows → {i k : ℕ} (c : Chain rows i) (d : Chain rows k) → length (indices c) < length (indices d) → AllByRecursion (λ y. eqb k y ≡ false) (indices c)
unfolding indices
apart_lone lone {k = k} root d l = (grind (arith, same lone d root), tt)
apart_lone lone {k = k} (up {i = i} r a j h c) d l = (grind (arith, same lone d (up r a j h c)), apart_lone lone c d (omega arith))

-- where all roads weigh something, the rows of a chain cost less and less
apart_all : {M : Meaning} {start : ℕ} {rows : List Row} → Tree all M start rows → {i : ℕ} (k : ℕ) (c : Chain rows i) (r q : Row) → At rows i r → At rows k q → r.cost < q.cost → AllByRecursion (λ y. eqb k y ≡ false) (indices c)
unfolding indices
apart_all tree k root r q a b l = (grind arith, tt)
apart_all tree k (up {i = i} p u j h c) r q a b l =
    let f = tree.parents i p u j h in
    (grind arith, apart_all tree k c f.row q f.there b (grind (arith, f.within)))

distinct_indices : (keeps : Keeps) {M : Meaning} {start : ℕ} {rows : List Row} → Tree keeps M start rows → {i : ℕ} (c : Chain rows i) → IsDistinct eqb (indices c)
unfolding indices IsDistinct
distinct_indices keeps tree root = (tt, tt)
distinct_indices one tree (up r a j h c) = (apart_lone tree.kin c (up r a j h c) (omega arith), distinct_indices one tree c)
distinct_indices all tree (up {i = i} r a j h c) = let f = tree.parents i r a j h in (apart_all tree (suc i) c f.row r f.there a (omega (arith, f.within, f.some refl)), distinct_indices all tree c)

in_rows : {rows : List Row} {i : ℕ} (c : Chain rows i) → 0 < length rows → (k : ℕ) → list_any (eqb k) (indices c) ≡ true → k < length rows
unfolding indices
in_rows root z k h = grind (arith, common_steps)
in_rows (up r a j b c) z k h = grind (arith, common_steps, in_rows c z k, slice_get_within)

pub short : (keeps : Keeps) {M : Meaning} {start : ℕ} {rows : List Row} → Tree keeps M start rows → {i : ℕ} (c : Chain rows i) → length (indices c) ≤ length rows
short keeps {rows = rows} tree c = length-le_from_distinct_below (indices c) (length rows) (distinct_indices keeps tree c) (in_rows c (slice_get_within rows 0 _ tree.root))
