-- A row's roads use up a potential, whatever it is that waits, and however a row enters it.
use Rattle.std.proofs.Common.{◌≡◌, ℕ, suc, ◌+◌, ◌-◌, ◌*◌, ◌<◌, ◌≤◌, Bool, List, [], ◌∷◌, ◌++◌, length, get_or, set, Ok, Result, suc-mul, arith}
use Rattle.std.specs.List.{sum_by, filter}
use Rattle.std.proofs.Math.Nat.{mul-le-mul_right}
use Rattle.std.proofs.lemmas.Grind.{common_steps}
use Rattle.std.proofs.lemmas.List.Sums.{sum_by-set, sum_by_push, length-filter, count_by-le-length}
use Rattle.std.proofs.lemmas.Option.{slice_get_within, get_or_from_slice_get}
use Rattle.kinds.specs.Kind.{Kind, IsBounded}
use Rattle.graph.specs.Meaning.{Meaning}
use Rattle.search.specs.declared.refusal.SeekRefusal.{SeekRefusal}
use Rattle.search.specs.Capacity.{Capacity}
use Rattle.search.specs.Rows.{Row, no_row}
use Rattle.search.specs.Roads.{State, Open, Keeps, follow, with_parent}
use Rattle.search.proofs.Changes.{Change, follow_all}

pub fewer : {A : Type 0} (p : A → Bool) (xs : List A) → length (filter p xs) ≤ length xs
fewer p xs = omega (arith, length-filter p xs, count_by-le-length p xs)

-- what the rows cost together
abbrev total : List Row → ℕ
total rows = sum_by (λ r. r.cost) rows

module _ (K : Kind) (cap : Capacity) where
  -- what the rows may still cost less: one that is not there yet counts for more than the greatest cost
  unfoldable pub credit : List Row → ℕ
  credit rows = (cap.rows - length rows) * (K.greatest + 1) + total rows

  new_falls : (rows : List Row) (r : Row) → length rows < cap.rows → r.cost ≤ K.greatest → credit (rows ++ r ∷ []) < credit rows
  unfolding credit
  new_falls rows r l b =
      let e : cap.rows - length rows ≡ suc (cap.rows - suc (length rows)) = omega arith in
      rw (e, suc-mul) (grind (arith, common_steps, sum_by_push))

  set_falls : (rows : List Row) (j : ℕ) (r : Row) → j < length rows → r.cost < (get_or rows j no_row).cost → credit (set rows j r) < credit rows
  unfolding credit
  set_falls rows j r l b = grind (arith, common_steps, sum_by-set)

  set_same : (rows : List Row) (j : ℕ) (r : Row) → j < length rows → r.cost ≡ (get_or rows j no_row).cost → credit (set rows j r) ≡ credit rows
  unfolding credit
  set_same rows j r l b = grind (arith, common_steps, sum_by-set)

  -- this many times what the rows may still cost less, and the size of what waits
  unfoldable pub potential : {W : Type 0} → (step : ℕ) (size : W → ℕ) → State W → ℕ
  potential step size s = credit s.rows * step + size s.waits

-- where each row that enters adds no more than a step to the size, following a row's roads leaves no greater potential
module _ {W : Type 0} (K : Kind) (M : Meaning) (cap : Capacity) (keeps : Keeps) (enter : Open → (row : ℕ) → W → Result W SeekRefusal) (bound : IsBounded K)
    (P : W → Type 0) (step : ℕ) (size : W → ℕ)
    (enters : (road : Open) (j : ℕ) (w w' : W) → enter road j w ≡ Ok w' → P w → P w' × (size w' ≤ size w + step)) where
  abbrev Under : State W → State W → Type 0
  Under s t = P t.waits × (potential K cap step size t ≤ potential K cap step size s)

  entered_falls : (road : Open) (j : ℕ) (s t : State W) → P s.waits → credit K cap t.rows < credit K cap s.rows → enter road j s.waits ≡ Ok t.waits → Under s t
  unfolding potential
  entered_falls road j s t p l e =
      let n = enters road j s.waits t.waits e p in
      (n.0, omega (arith, n.1, suc-mul (credit K cap t.rows) step, mul-le-mul_right step l))

  changed_falls : (road : Open) (s t : State W) → road.sum ≤ K.greatest → P s.waits → Change K M cap keeps enter road s t → Under s t
  unfolding potential
  changed_falls road s t b p (Change.stays z j q a h l m) = rw z (p, omega arith)
  changed_falls road s t b p (Change.makes fresh l z e) = entered_falls road _ s t p (rw z (new_falls K cap s.rows _ l b)) e
  changed_falls road s t b p (Change.cheapens j q a h l z e) =
      entered_falls road j s t p (rw z (set_falls K cap s.rows j _ (slice_get_within s.rows j q a) (grind (arith, get_or_from_slice_get s.rows j q no_row a)))) e
  changed_falls road s t b p (Change.links kq j q a h l n z) =
      rw z (p, rw (set_same K cap s.rows j (with_parent q road.row) (slice_get_within s.rows j q a) (grind (arith, get_or_from_slice_get s.rows j q no_row a))) (omega arith))

  pub follow_falls : (i : ℕ) (s t : State W) → P s.waits → follow K M cap keeps enter i s ≡ Ok t → P t.waits × (potential K cap step size t ≤ potential K cap step size s)
  follow_falls i s t p e =
      follow_all K M cap keeps enter (Under s) (λ j c rank k w u v q f. let x = changed_falls _ u v (bound c w f.fits) q.0 f.change in (x.0, omega (arith, q.1, x.1))) i s t (p, omega arith) e
