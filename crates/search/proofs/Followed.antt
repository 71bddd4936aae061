-- A row is taken out, and its roads are followed rank by rank.
use Rattle.std.proofs.Common.{◌≡◌, ℕ, ◌+◌, true, ◌⊎◌, List, inl, inr, arith}
use Rattle.std.proofs.lemmas.Bool.{cases_eq}
use Rattle.graph.specs.Meaning.{Meaning, IsLawful, opened, closed}
use Rattle.search.specs.Rows.{Row}
use Rattle.search.specs.Roads.{Keeps}
use Rattle.search.proofs.Places.{At}
use Rattle.search.proofs.Paths.{in_count}
use Rattle.search.proofs.Invariant.{Inv, Reached, Settled, AllDue, Below}

-- the road of a rank of row i has been followed, and row i stays as it is
pub record Followed (keeps : Keeps) (M : Meaning) (start : ℕ) (Took : ℕ → Type 0) (Due : ℕ → ℕ → Type 0) (W : ℕ → Type 0) (i : ℕ) (r : Row) (rank : ℕ) (rows : List Row) : Type 0 where
  pub inv : Inv keeps M start Took Due W rows
  pub stays : At rows i r
  pub follows : (k w : ℕ) → M.road r.key rank ≡ opened k w → Reached keeps rows i k (r.cost + w)

module _ (keeps : Keeps) (M : Meaning) (start : ℕ) (Took : ℕ → Type 0) (rows : List Row) (i : ℕ) (r : Row) where
  -- a road that is closed, or leads where a row costs no more, changes nothing
  module _ (Due : ℕ → ℕ → Type 0) (W : ℕ → Type 0) (rank : ℕ) (inv : Inv keeps M start Took Due W rows) (there : At rows i r) where
    pub followed_closed : M.road r.key rank ≡ closed → Followed keeps M start Took Due W i r rank rows
    followed_closed c = record { inv = inv; stays = there; follows = λ k w h. cc }

    pub followed_open : (k w : ℕ) → M.road r.key rank ≡ opened k w → Reached keeps rows i k (r.cost + w) → Followed keeps M start Took Due W i r rank rows
    followed_open k w road h = record { inv = inv; stays = there; follows = λ k' w' b. record { at = h.at; row = h.row; there = h.there; same = cc; within = grind arith; linked = λ z q. grind (arith, h.linked z) } }

  pub take_out : (Took₀ W W' : ℕ → Type 0) → At rows i r → ((m : ℕ) → Took₀ m → Took m) → ((m : ℕ) → (m ≡ i → ⊥) → W m → W' m) → (M.goal r.key ≡ true → Took i) → Inv keeps M start Took₀ AllDue W rows → Inv keeps M start Took (Below i 0) W' rows
  take_out Took₀ W W' there took waits not_goal v = record { tree = v.tree; settled = step }
    where
      step : (m : ℕ) (q : Row) → At rows m q → W' m ⊎ Settled keeps M (Took m) (Below i 0 m) rows m q
      step m q a = elim (cases_eq m i) [
        | inl e ↦ inr (record { goal = λ g. rw e (not_goal (let z : q ≡ r = cc in rw z at g)); followed = λ rank k w d x. grind arith })
        | inr n ↦ elim (v.settled m q a) [ inl b ↦ inl (waits m n b) | inr b ↦ inr (record { goal = λ g. took m (b.goal g); followed = λ rank k w d. b.followed rank k w tt }) ]
      ]

  -- more ranks are due, whose roads have been followed
  due_more : (Due Due' : ℕ → ℕ → Type 0) (W : ℕ → Type 0) → Inv keeps M start Took Due W rows → ((m : ℕ) (q : Row) → At rows m q → (rank k w : ℕ) → Due' m rank → M.road q.key rank ≡ opened k w → Due m rank ⊎ Reached keeps rows m k (q.cost + w)) → Inv keeps M start Took Due' W rows
  due_more Due Due' W v more = record { tree = v.tree; settled = step }
    where
      step : (m : ℕ) (q : Row) → At rows m q → W m ⊎ Settled keeps M (Took m) (Due' m) rows m q
      step m q a = elim (v.settled m q a) [
        | inl b ↦ inl b
        | inr b ↦ inr (record { goal = b.goal; followed = λ rank k w d x. elim (more m q a rank k w d x) [ inl e ↦ b.followed rank k w e x | inr f ↦ f ] })
      ]

  pub one_more : (W : ℕ → Type 0) (n : ℕ) → Followed keeps M start Took (Below i n) W i r n rows → Inv keeps M start Took (Below i (n + 1)) W rows
  one_more W n f = due_more (Below i n) (Below i (n + 1)) W f.inv (λ m q a rank k w d x. elim (cases_eq rank n) [
    | inr o ↦ inl (λ e. grind arith)
    | inl g ↦ elim (cases_eq m i) [ inr o ↦ inl (λ e. grind arith) | inl e ↦ inr (let z : q ≡ r = cc in rw (e, z) (f.follows k w (cc))) ]
  ])

  pub all_followed : (guess : ℕ → ℕ) → IsLawful M guess → (W : ℕ → Type 0) → At rows i r → Inv keeps M start Took (Below i (M.count r.key)) W rows → Inv keeps M start Took AllDue W rows
  all_followed guess law W there v = due_more (Below i (M.count r.key)) AllDue W v (λ m q a rank k w d x. inl (λ e. in_count M guess law r.key k rank w (cc)))
