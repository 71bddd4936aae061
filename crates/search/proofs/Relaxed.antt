-- A row's roads are followed: what holds of the rows is kept, whatever it is that waits, and however a row enters it.
use Rattle.std.proofs.Common.{◌≡◌, ℕ, zero, suc, ◌+◌, ◌<◌, true, List, [], ◌∷◌, length, get_or, set, Ok, Result, refl, arith}
use Rattle.kinds.specs.Kind.{Kind}
use Rattle.graph.specs.Meaning.{Meaning, IsLawful, Road, opened, closed, faulty}
use Rattle.search.specs.declared.refusal.SeekRefusal.{SeekRefusal}
use Rattle.search.specs.Capacity.{Capacity}
use Rattle.search.specs.Rows.{Row, no_row}
use Rattle.search.specs.Roads.{State, Open, Keeps, all, relax, along, follow, from_here, with_parent}
use Rattle.search.proofs.Places.{At}
use Rattle.search.proofs.Invariant.{Inv, AllDue, Below}
use Rattle.search.proofs.Followed.{Followed, followed_open, followed_closed, take_out, one_more, all_followed}
use Rattle.search.proofs.Placed.{Placed, placed_new, placed_cheaper, followed_placed}
use Rattle.search.proofs.Changes.{Change, went, opened_changes}
use Rattle.search.proofs.Tied.{followed_tied}

module _ {W : Type 0} (K : Kind) (M : Meaning) (cap : Capacity) (keeps : Keeps) (enter : Open → (row : ℕ) → W → Result W SeekRefusal)
    (guess : ℕ → ℕ) (law : IsLawful M guess) (start : ℕ) (Took : ℕ → Type 0) (Waits : W → ℕ → Type 0) (Extra : List Row → W → Type 0)
    (enters : (road : Open) (j : ℕ) (w w' : W) → enter road j w ≡ Ok w' → Waits w' j × ((m : ℕ) → (m ≡ j → ⊥) → Waits w m → Waits w' m))
    (extra_placed : (road : Open) (j : ℕ) (rows rows' : List Row) (w w' : W) → Placed rows rows' j (from_here road) → enter road j w ≡ Ok w' → Extra rows w → Extra rows' w')
    (extra_tied : keeps ≡ all → (j i : ℕ) (old : Row) (rows : List Row) (w : W) → At rows j old → Extra rows w → Extra (set rows j (with_parent old i)) w) where
  pub record Good (Due : ℕ → ℕ → Type 0) (s : State W) : Type 0 where
    pub inv : Inv keeps M start Took Due (Waits s.waits) s.rows
    pub extra : Extra s.rows s.waits

  module _ (Due : ℕ → ℕ → Type 0) (i rank : ℕ) (r : Row) (s : State W) (good : Good Due s) (there : At s.rows i r) where
    abbrev AfterRoad : State W → Type 0
    AfterRoad t = Followed keeps M start Took Due (Waits t.waits) i r rank t.rows × Extra t.rows t.waits

    placed_keeps : (k w j : ℕ) (t : State W) → M.road r.key rank ≡ opened k w → (keeps ≡ all → 0 < w) → Placed s.rows t.rows j (record { key = k; cost = r.cost + w; parents = i ∷ [] })
        → enter (record { row = i; rank = rank; key = k; sum = r.cost + w }) j s.waits ≡ Ok t.waits → AfterRoad t
    placed_keeps k w j t road some p e =
        let n = enters _ j s.waits t.waits e in (
          followed_placed s.rows t.rows j _ p keeps M start Took Due (Waits s.waits) _ rank w i r refl good.inv there road refl some (law.leads r.key rank k w road) n.0 n.1,
          extra_placed _ j s.rows t.rows s.waits t.waits p e good.extra,
        )

    changed_keeps : (k w : ℕ) → M.road r.key rank ≡ opened k w → (keeps ≡ all → 0 < w) → (t : State W) → Change K M cap keeps enter (record { row = i; rank = rank; key = k; sum = r.cost + w }) s t → AfterRoad t
    changed_keeps k w road some t (Change.stays z j q a h l m) =
        rw z (followed_open keeps M start Took s.rows i r Due _ rank good.inv there k w road (record { at = j; row = q; there = a; same = h; within = l; linked = m }), good.extra)
    changed_keeps k w road some t (Change.makes fresh l z e) = placed_keeps k w (length s.rows) t road some (rw z (placed_new s.rows _ fresh)) e
    changed_keeps k w road some t (Change.cheapens j q a h l z e) =
        placed_keeps k w j t road some (rw z (placed_cheaper s.rows j q _ a h l (λ m x b y. good.inv.tree.unique m j x q b a y))) e
    changed_keeps k w road some t (Change.links kq j q a h l n z) =
        rw z (followed_tied s.rows j q i a keeps kq n M start Took Due (Waits s.waits) rank w r good.inv there (rw h road) l (some kq), extra_tied kq j i q s.rows s.waits a good.extra)

    relax_keeps : (d : Road) → M.road r.key rank ≡ d → (t : State W) → relax K M cap keeps enter i r.cost rank d s ≡ Ok t → AfterRoad t
    unfolding relax
    relax_keeps closed q t e = let z : t ≡ s = cc in rw z (followed_closed keeps M start Took s.rows i r Due _ rank good.inv there q, good.extra)
    relax_keeps (faulty f) q t e = cc
    relax_keeps (opened k w) q t e = let f = opened_changes K M cap keeps enter i r.cost rank k w s t e in changed_keeps k w q f.some t f.change

  pub along_keeps : (i : ℕ) (r : Row) (left n m : ℕ) (s t : State W) → n + left ≡ m → Good (Below i n) s → At s.rows i r → along K M cap keeps enter i r left n s ≡ Ok t → Good (Below i m) t × At t.rows i r
  unfolding along
  along_keeps i r zero n m s t y g there e =
      let z : t ≡ s = cc in
      let x : m ≡ n = omega arith in
      rw (z, x) (g, there)
  along_keeps i r (suc left) n m s t y g there e =
      let h = went _ _ t e in
      let k = relax_keeps (Below i n) i n r s g there (M.road r.key n) refl h.0 h.1 in
      along_keeps i r left (n + 1) m h.0 t (omega arith) (record { inv = one_more keeps M start Took h.0.rows i r (Waits h.0.waits) n k.0; extra = k.1 }) k.0.stays h.2

  -- row i is taken out, and all its roads are followed
  pub follow_keeps : (i : ℕ) (r : Row) (Took₀ Before : ℕ → Type 0) (s t : State W) → At s.rows i r → get_or s.rows i no_row ≡ r → Inv keeps M start Took₀ AllDue Before s.rows → ((m : ℕ) → Took₀ m → Took m)
      → ((m : ℕ) → (m ≡ i → ⊥) → Before m → Waits s.waits m) → (M.goal r.key ≡ true → Took i) → Extra s.rows s.waits
      → follow K M cap keeps enter i s ≡ Ok t → Good AllDue t
  follow_keeps i r Took₀ Before s t there is inv took_on waits took extra e =
      let out : Good (Below i 0) s = record { inv = take_out keeps M start Took s.rows i r Took₀ Before (Waits s.waits) there took_on waits took inv; extra = extra } in
      let k = along_keeps i r (M.count r.key) 0 (M.count r.key) s t (omega arith) out there (rw is at e) in
      record { inv = all_followed keeps M start Took t.rows i r guess law (Waits t.waits) k.1 k.0.inv; extra = k.0.extra }
