-- What is listed is what the definition lists.
use Rattle.std.proofs.Common.{◌≡◌, ℕ, zero, suc, ◌<◌, List, [], ◌∷◌, ◌++◌, map, length, get_or, reverse, sym, refl, ap, ◌∙◌}
use Rattle.std.specs.List.{flat_map}
use Rattle.std.proofs.lemmas.List.{map-append, reverse-append, append-nil, length-map}
use Rattle.std.proofs.lemmas.Grind.{flat_map-append}
use Rattle.search.specs.Members.{In}
use Rattle.search.specs.Rows.{Row, no_row, latest_first, begun, routes_by, routes_to}
use Rattle.listing.specs.Routes.{fork, routes_of, listing}
use Rattle.listing.specs.Handing.{par, key_at, keys_in, parents_in, Falling}

pub latest_flat : {A : Type 0} (g : ℕ → List A) (js : List ℕ) → flat_map g (reverse js) ≡ latest_first g js
latest_flat g [] = refl
latest_flat g (j ∷ js) =
    ap (flat_map g) (reverse-append (j ∷ []) js)
    ∙ flat_map-append g (reverse js) (j ∷ [])
    ∙ ap (λ x. x ++ (g j ++ [])) (latest_flat g js)
    ∙ ap (λ x. latest_first g js ++ x) (append-nil (g j))

fork_push : {A : Type 0} (g : ℕ → List A) (path : A) (xs : List ℕ) (j : ℕ) → fork (xs ++ j ∷ []) path g g ≡ flat_map g (xs ++ j ∷ [])
fork_push g path [] j = refl
fork_push g path (x ∷ xs) j = refl

forked : (g : ℕ → List (List ℕ)) (path js : List ℕ) → fork (reverse js) path g g ≡ begun js path (latest_first g js)
forked g path [] = refl
forked g path (j ∷ js) =
    ap (λ x. fork x path g g) (reverse-append (j ∷ []) js)
    ∙ fork_push g path (reverse js) j
    ∙ ap (flat_map g) (sym (reverse-append (j ∷ []) js))
    ∙ latest_flat g (j ∷ js)

map_latest : {A B : Type 0} (f : A → B) (g : ℕ → List A) (h : ℕ → List B) → ((p : ℕ) → map f (g p) ≡ h p) → (js : List ℕ) → map f (latest_first g js) ≡ latest_first h js
map_latest f g h e [] = refl
map_latest f g h e (j ∷ js) = map-append f (latest_first g js) (g j) ∙ ap (λ x. x ++ map f (g j)) (map_latest f g h e js) ∙ ap (λ x. latest_first h js ++ x) (e j)

map_begun : (f : List ℕ → List ℕ) (js path : List ℕ) (xs ys : List (List ℕ)) → map f xs ≡ ys → map f (begun js path xs) ≡ begun js (f path) ys
map_begun f [] path xs ys e = refl
map_begun f (j ∷ js) path xs ys e = e

-- the parents of a row, also past the last
pub parents_of : (rows : List Row) (i : ℕ) → get_or (parents_in rows) i [] ≡ (get_or rows i no_row).parents
parents_of [] i = refl
parents_of (r ∷ rows) zero = refl
parents_of (r ∷ rows) (suc i) = parents_of rows i

-- the key of a row, also past the last
pub key_of : (rows : List Row) (i : ℕ) → key_at (keys_in rows) i ≡ (get_or rows i no_row).key
key_of [] i = refl
key_of (r ∷ rows) zero = refl
key_of (r ∷ rows) (suc i) = key_of rows i

-- a rank that falls from each row to its parents, in the words of lists
pub falling_rows : (rows : List Row) (rank : ℕ → ℕ) → ((i j : ℕ) → In j (get_or rows i no_row).parents → rank j < rank i) → ((i j : ℕ) → In j (get_or rows i no_row).parents → j < length rows) → Falling (parents_in rows)
falling_rows rows rank falls inside = record {
  rank = rank;
  falls = λ i j h. falls i j (rw (← parents_of rows i) h);
  inside = λ i j h. rw (length-map rows (λ (r : Row). r.parents)) (inside i j (rw (← parents_of rows i) h));
}

module _ (rows : List Row) (lists : List (List ℕ)) (same : parents_in rows ≡ lists) where
  par_is : (i : ℕ) → par lists i ≡ reverse (get_or rows i no_row).parents
  par_is i = ap reverse (sym (ap (λ (l : List (List ℕ)). get_or l i []) same) ∙ parents_of rows i)

  abbrev by_key : List ℕ → List ℕ
  by_key = map (key_at (keys_in rows))

  pub by_rows : (n i : ℕ) (acc : List ℕ) → map by_key (routes_of (par lists) n i acc) ≡ routes_by n rows i (by_key acc)
  unfolding routes_of routes_by
  by_rows zero i acc = refl
  by_rows (suc n) i acc =
      let g : ℕ → List (List ℕ) = λ p. routes_of (par lists) n p (i ∷ acc) in
      let js : List ℕ = (get_or rows i no_row).parents in
      ap (λ (l : List ℕ). map by_key (fork l (i ∷ acc) g g)) (par_is i)
      ∙ ap (map by_key) (forked g (i ∷ acc) js)
      ∙ map_begun by_key js (i ∷ acc) (latest_first g js) (latest_first (λ p. routes_by n rows p (by_key (i ∷ acc))) js)
      (map_latest by_key g (λ p. routes_by n rows p (by_key (i ∷ acc))) (λ p. by_rows n p (i ∷ acc)) js)
      ∙ ap (λ k. begun js (k ∷ by_key acc) (latest_first (λ p. routes_by n rows p (k ∷ by_key acc)) js)) (key_of rows i)

  long : length lists ≡ length rows
  long = sym (ap length same) ∙ length-map rows (λ (r : Row). r.parents)

  pub all_rows : (sinks : List ℕ) → map by_key (listing (par lists) (length lists) (reverse sinks)) ≡ latest_first (routes_to rows) sinks
  unfolding listing
  all_rows sinks =
      ap (map by_key) (latest_flat (λ s. routes_of (par lists) (length lists) s []) sinks)
      ∙ map_latest by_key (λ s. routes_of (par lists) (length lists) s []) (routes_to rows) (λ s. by_rows (length lists) s [] ∙ ap (λ n. routes_by n rows s []) long) sinks
