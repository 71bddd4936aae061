-- fringe ends.
use Rattle.std.proofs.Common.{◌≡◌, ℕ, suc, ◌+◌, ◌-◌, ◌*◌, ◌<◌, ◌≤◌, Bool, true, false, ◌⊎◌, List, [], ◌∷◌, length, get_or, Ok, suc-mul, length-append, refl, inl, inr, arith}
use Rattle.std.specs.Prelude.{nat_lt, not, ◌==◌}
use Rattle.std.proofs.Math.Nat.{mul-le-mul_right, mul-le-mul_left, mul-add}
use Rattle.std.proofs.lemmas.Grind.{common_steps}
use Rattle.kinds.specs.Kind.{Kind, IsBounded}
use Rattle.graph.specs.Meaning.{Meaning}
use Rattle.search.specs.Capacity.{Capacity}
use Rattle.search.specs.Ends.{Turned, more}
use Rattle.search.specs.Rows.{Row, no_row}
use Rattle.search.specs.Roads.{State, Open, one}
use Rattle.search.specs.Fringe.{Fringe, without, to_front, passed, within, limited, summed, fringe, begin}
use Rattle.search.proofs.Once.{Spends, turned_spends, spent, ComesToOne, comes}
use Rattle.search.proofs.Falls.{fewer, potential, follow_falls}

-- a state by its parts
abbrev pub at : (rows : List Row) (now later : List ℕ) (limit least : ℕ) → State Fringe
at rows now later limit least = record { rows = rows; waits = record { now = now; later = later; limit = limit; least = least } }

module _ (K : Kind) (M : Meaning) (guess : ℕ → ℕ) (cap : Capacity) (bound : IsBounded K) where
  -- an entry counts for more the lower the limit, and by one more while it is in this pass
  abbrev high : (limit : ℕ) → ℕ
  high limit = (K.greatest - limit) + (K.greatest - limit)

  abbrev size_of : (now later limit : ℕ) → ℕ
  size_of now later limit = (now + later) * high limit + now

  size : Fringe → ℕ
  size f = size_of (length f.now) (length f.later) f.limit

  pass_less : (m limit least : ℕ) → 0 < m → limit < least → least ≤ K.greatest → size_of m 0 least < size_of 0 m limit
  pass_less m limit least z l b =
      let h : high least + 2 ≤ high limit = omega arith in
      let e : m + 0 ≡ m = omega arith in
      rw e (omega (arith, mul-le-mul_left m h, mul-add m (high least) 2))

  taken_less : (now later limit : ℕ) → size_of now later limit < size_of (suc now) later limit
  taken_less now later limit = let l : now + later ≤ suc now + later = omega arith in omega (arith, mul-le-mul_right (high limit) l)

  later_less : (now later limit : ℕ) → size_of now (later + 1) limit < size_of (suc now) later limit
  later_less now later limit = let e : now + (later + 1) ≡ suc now + later = omega arith in rw e (omega arith)

  -- the least sum is above the limit, where any was met
  pub record Above (f : Fringe) : Type 0 where
    pub within : f.least ≤ K.greatest
    pub above : (f.limit < f.least) ⊎ ((f.later ≡ []) × (f.least ≡ K.greatest))

  step : ℕ
  step = K.greatest + K.greatest + 1

  fronts : (road : Open) (j : ℕ) (f f' : Fringe) → to_front road j f ≡ Ok f' → Above f → Above f' × (size f' ≤ size f + step)
  unfolding size step
  fronts road j f f' e a =
      let z : f' ≡ record { now = j ∷ without j f.now; later = without j f.later; limit = f.limit; least = f.least } = cc in
      let n = fewer (λ i. not (i == j)) f.now in
      let m = fewer (λ i. not (i == j)) f.later in
      let l : suc (length (without j f.now)) + length (without j f.later) ≤ suc (length f.now + length f.later) = omega arith in
      rw z (
        record { within = a.within; above = elim a.above [ inl h ↦ inl h | inr h ↦ inr (rw h.0 refl, h.1) ] },
        omega (arith, mul-le-mul_right (high f.limit) l, suc-mul (length f.now + length f.later) (high f.limit)),
      )

  pub fringe_potential : State Fringe → ℕ
  fringe_potential = potential K cap step size

  FringeSpends : State Fringe → Turned (State Fringe) → Type 0
  FringeSpends = Spends (λ s. Above s.waits) fringe_potential

  passed_spends : (rows : List Row) (later : List ℕ) (limit least : ℕ) → Above (at rows [] later limit least).waits → FringeSpends (at rows [] later limit least) (passed K M guess cap later (at rows [] later limit least))
  unfolding FringeSpends passed fringe_potential potential size
  passed_spends rows [] limit least a = tt
  passed_spends rows (j ∷ js) limit least a =
      let l : limit < least = elim a.above [ inl h ↦ h | inr h ↦ absurd (cc) ] in
      (record { within = omega arith; above = inr (refl, refl) }, omega (arith, pass_less (length (j ∷ js)) limit least (omega arith) l a.within))

  module _ (rows : List Row) (i : ℕ) (is later : List ℕ) (limit least : ℕ) (a : Above (at rows (i ∷ is) later limit least).waits) where
    within_spends : (b : Bool) → FringeSpends (at rows (i ∷ is) later limit least) (within K M guess cap b i (at rows is later limit least))
    unfolding FringeSpends within fringe_potential potential size
    within_spends true = tt
    within_spends false = turned_spends (λ s. Above s.waits) fringe_potential (at rows (i ∷ is) later limit least) _ (λ t e.
        let f = follow_falls K M cap one to_front bound Above step size fronts i (at rows is later limit least) t (record { within = a.within; above = a.above }) e in
        (f.0, omega (arith, f.1, taken_less (length is) (length later) limit)))

    limited_spends : (sum : ℕ) → sum ≤ K.greatest → (b : Bool) → nat_lt limit sum ≡ b → FringeSpends (at rows (i ∷ is) later limit least) (limited K M guess cap b i sum (at rows is later limit least))
    unfolding FringeSpends limited fringe_potential potential size
    limited_spends sum l true q = (
      record { within = grind (arith, common_steps, a.within); above = inl (grind (arith, common_steps, a.above)) },
      rw length-append (omega (arith, later_less (length is) (length later) limit)),
    )
    limited_spends sum l false q = within_spends (M.goal (get_or rows i no_row).key)

    summed_spends : (r : Row) (b : Bool) → K.fits r.cost (guess r.key) ≡ b → FringeSpends (at rows (i ∷ is) later limit least) (summed K M guess cap b i r (at rows is later limit least))
    unfolding FringeSpends summed
    summed_spends r true q = limited_spends _ (bound r.cost (guess r.key) q) _ refl
    summed_spends r false q = tt

  at_spends : (rows : List Row) (now later : List ℕ) (limit least : ℕ) → Above (at rows now later limit least).waits → FringeSpends (at rows now later limit least) (fringe K M guess cap now (at rows now later limit least))
  unfolding fringe
  at_spends rows [] later limit least a = passed_spends rows later limit least a
  at_spends rows (i ∷ is) later limit least a = summed_spends rows i is later limit least a (get_or rows i no_row) _ refl

  abbrev turn : State Fringe → Turned (State Fringe)
  turn s = fringe K M guess cap s.waits.now s

  turn_spends : (s : State Fringe) → Above s.waits → FringeSpends s (turn s)
  turn_spends s a = at_spends s.rows s.waits.now s.waits.later s.waits.limit s.waits.least a

  pub fringe_falls : (s t : State Fringe) → Above s.waits → more t ≡ fringe K M guess cap s.waits.now s → Above t.waits × (fringe_potential t < fringe_potential s)
  unfolding FringeSpends
  fringe_falls s t a e = spent (λ s. Above s.waits) fringe_potential s t (turn s) (turn_spends s a) e

  pub begin_above : (start : ℕ) → Above (begin K M guess cap start).waits
  begin_above start = record { within = omega arith; above = inr (refl, refl) }

  pub fringe_ends : (start : ℕ) → ComesToOne turn (begin K M guess cap start)
  unfolding FringeSpends
  fringe_ends start = comes turn (λ s. Above s.waits) fringe_potential turn_spends (begin K M guess cap start) (begin_above start)
