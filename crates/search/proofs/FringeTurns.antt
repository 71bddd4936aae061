-- fringe: each turn keeps the invariant, and the outcome shows what it should.
use Rattle.std.proofs.Common.{◌↔◌, ◌≡◌, ℕ, ◌+◌, ◌<◌, ◌≤◌, Bool, true, false, ◌⊎◌, List, [], ◌∷◌, length, get_or, set, Ok, refl, inl, inr, arith}
use Rattle.std.specs.Prelude.{nat_lt, not, ◌==◌}
use Rattle.std.proofs.lemmas.Bool.{cases_eq}
use Rattle.std.proofs.lemmas.Grind.{common_steps}
use Rattle.std.proofs.lemmas.Option.{slice_get-get_or, slice_get_within}
use Rattle.kinds.specs.Kind.{Kind}
use Rattle.graph.specs.Meaning.{Meaning, IsLawful}
use Rattle.graph.specs.Routes.{IsTrueGuess}
use Rattle.search.specs.Capacity.{Capacity}
use Rattle.search.specs.Outcome.{Outcome}
use Rattle.search.specs.Ends.{Turned, Ends}
use Rattle.search.specs.Laws.{Shows}
use Rattle.search.specs.Rows.{Row, no_row}
use Rattle.search.specs.Roads.{State, Open, one, all, from_here, with_parent}
use Rattle.search.specs.Fringe.{Fringe, without, to_front, passed, within, limited, summed, fringe, begin}
use Rattle.search.specs.Members.{In}
use Rattle.search.proofs.Once.{After, after_turned, through}
use Rattle.search.proofs.Places.{At, in_push, in_filter}
use Rattle.search.proofs.Invariant.{AllDue, begins}
use Rattle.search.proofs.Placed.{Placed}
use Rattle.search.proofs.Frontier.{no_route, no_lighter}
use Rattle.search.proofs.Relaxed.{Good, follow_keeps}
use Rattle.search.proofs.FringeEnds.{at}
use Rattle.search.proofs.Shown.{Low, NoneTook, shows_one}

pub without_in : (j m : ℕ) (js : List ℕ) → In m (without j js) ↔ (In m js × (m ≡ j → ⊥))
without_in j m js = let o = in_filter (λ i. not (i == j)) m js in (λ h. grind (arith, common_steps, o.0), λ h. o.1 (h.0, grind (arith, common_steps, h.1)))

abbrev Waits : Fringe → ℕ → Type 0
Waits f j = In j f.now ⊎ In j f.later

module _ (K : Kind) (M : Meaning) (guess : ℕ → ℕ) (cap : Capacity) (law : IsLawful M guess) (Guided : Type 0) (guided : Guided → IsTrueGuess M guess) (start : ℕ) where
  record Extra (rows : List Row) (f : Fringe) : Type 0 where
    there : (j : ℕ) → Waits f j → j < length rows
    high : (j : ℕ) (r : Row) → In j f.later → At rows j r → f.least ≤ r.cost + guess r.key
    low : Low M Guided start f.limit

  enters : (road : Open) (j : ℕ) (f f' : Fringe) → to_front road j f ≡ Ok f' → Waits f' j × ((m : ℕ) → (m ≡ j → ⊥) → Waits f m → Waits f' m)
  enters road j f f' e =
      let z : f' ≡ record { now = j ∷ without j f.now; later = without j f.later; limit = f.limit; least = f.least } = cc in
      rw z (inl (inl refl), λ m n. elim [ inl h ↦ inl (inr ((without_in j m f.now).1 (h, n))) | inr h ↦ inr ((without_in j m f.later).1 (h, n)) ])

  extra_placed : (road : Open) (j : ℕ) (rows rows' : List Row) (f f' : Fringe) → Placed rows rows' j (from_here road) → to_front road j f ≡ Ok f' → Extra rows f → Extra rows' f'
  extra_placed road j rows rows' f f' p e x =
      let z : f' ≡ record { now = j ∷ without j f.now; later = without j f.later; limit = f.limit; least = f.least } = cc in
      rw z (record {
        there = λ m h. elim (cases_eq m j) [
          | inl q ↦ (slice_get_within rows' m (from_here road) (rw q p.here))
          | inr n ↦
              let y : Waits f m = elim h [ inl o ↦ inl (elim o [ inl q ↦ absurd (n q) | inr o ↦ ((without_in j m f.now).0 o).0 ]) | inr o ↦ inr ((without_in j m f.later).0 o).0 ] in
              slice_get_within rows' m _ (p.to m _ n (slice_get-get_or rows m no_row (x.there m y)))
        ];
        high = λ m r h a. let o = (without_in j m f.later).0 h in x.high m r o.0 (p.from m r o.1 a);
        low = x.low;
      })

  extra_tied : one ≡ all → (j i : ℕ) (old : Row) (rows : List Row) (f : Fringe) → At rows j old → Extra rows f → Extra (set rows j (with_parent old i)) f
  extra_tied e j i old rows f a x = cc

  abbrev Standing : State Fringe → Type 0
  Standing = Good K M cap one to_front guess law start NoneTook Waits Extra enters extra_placed extra_tied AllDue

  abbrev AfterTurn : Turned (State Fringe) → Type 0
  AfterTurn = After Standing (Shows one M Guided start)

  -- now is empty: what waits is later, and nothing weighs less than the least sum that was met
  passed_keeps : (rows : List Row) (later : List ℕ) (limit least : ℕ) → Standing (at rows [] later limit least) → AfterTurn (passed K M guess cap later (at rows [] later limit least))
  unfolding passed
  passed_keeps rows [] limit least g = λ ks r. no_route one M start NoneTook _ rows g.inv (λ j h. elim h [ inl o ↦ o | inr o ↦ o ]) (λ j t. t) ks r.0 r.1
  passed_keeps rows (j ∷ js) limit least g =
      record {
        inv = record { tree = g.inv.tree; settled = λ m r a. elim (g.inv.settled m r a) [ inl h ↦ inl (elim h [ inl o ↦ absurd o | inr o ↦ inl o ]) | inr b ↦ inr b ] };
        extra = record {
          there = λ m h. elim h [ inl o ↦ g.extra.there m (inr o) | inr o ↦ absurd o ];
          high = λ m r h a. absurd h;
          low = λ t. no_lighter one M start NoneTook _ rows g.inv guess law (guided t) least (λ m r a h. elim h [ inl o ↦ absurd o | inr o ↦ g.extra.high m r o a ]) (λ m r a h. absurd h);
        };
      }

  module _ (rows : List Row) (i : ℕ) (is later : List ℕ) (limit least : ℕ) where
    abbrev before : State Fringe
    before = at rows (i ∷ is) later limit least

    abbrev s : State Fringe
    s = at rows is later limit least

    module _ (g : Standing before) (r : Row) (a : At rows i r) (is_r : get_or rows i no_row ≡ r) where
      still : (m : ℕ) → (m ≡ i → ⊥) → Waits before.waits m → Waits s.waits m
      still m n h = elim h [ inl o ↦ inl (elim o [ inl q ↦ absurd (n q) | inr o ↦ o ]) | inr o ↦ inr o ]

      rest : Extra rows s.waits
      rest = record { there = λ m h. g.extra.there m (elim h [ inl o ↦ inl (inr o) | inr o ↦ inr o ]); high = g.extra.high; low = g.extra.low }

      within_keeps : r.cost + guess r.key ≤ limit → (b : Bool) → M.goal r.key ≡ b → AfterTurn (within K M guess cap b i s)
      unfolding within
      within_keeps l true q = rw is_r (shows_one M guess law Guided start rows g.inv.tree i r a q (λ t ks w h. omega (arith, l, g.extra.low t ks w h)))
      within_keeps l false q =
          after_turned Standing (Shows one M Guided start) (λ r. tt) _ (λ t e. follow_keeps K M cap one to_front guess law start NoneTook Waits Extra enters extra_placed extra_tied i r NoneTook (Waits before.waits) s t a is_r g.inv (λ m h. h) still (λ h. cc) rest e)

      limited_keeps : (b : Bool) → nat_lt limit (r.cost + guess r.key) ≡ b → AfterTurn (limited K M guess cap b i (r.cost + guess r.key) s)
      unfolding limited
      limited_keeps true q =
          record {
            inv = record {
              tree = g.inv.tree;
              settled = λ m p b. elim (g.inv.settled m p b) [
                | inl h ↦ inl (elim h [ inl o ↦ elim o [ inl e ↦ inr ((in_push m i later).1 (inr e)) | inr o ↦ inl o ] | inr o ↦ inr ((in_push m i later).1 (inl o)) ])
                | inr b ↦ inr b
              ];
            };
            extra = record {
              there = λ m h. g.extra.there m (elim h [ inl o ↦ inl (inr o) | inr o ↦ elim ((in_push m i later).0 o) [ inl o ↦ inr o | inr e ↦ inl (inl e) ] ]);
              high = λ m p h b. elim ((in_push m i later).0 h) [
                | inl o ↦ (let x = g.extra.high m p o b in grind (arith, common_steps))
                | inr e ↦ (let z : p ≡ r = cc in rw z (grind (arith, common_steps)))
              ];
              low = g.extra.low;
            };
          }
      limited_keeps false q = rw (← is_r) at (within_keeps (grind (arith, common_steps)) (M.goal r.key) refl)

      summed_keeps : (b : Bool) → AfterTurn (summed K M guess cap b i r s)
      unfolding summed
      summed_keeps true = limited_keeps _ refl
      summed_keeps false = tt

  turn_keeps : (s : State Fringe) → Standing s → AfterTurn (fringe K M guess cap s.waits.now s)
  unfolding fringe
  turn_keeps s g = go s.rows s.waits.now s.waits.later s.waits.limit s.waits.least g
    where
      go : (rows : List Row) (now later : List ℕ) (limit least : ℕ) → Standing (at rows now later limit least) → AfterTurn (fringe K M guess cap now (at rows now later limit least))
      go rows [] later limit least g = passed_keeps rows later limit least g
      go rows (i ∷ is) later limit least g =
          summed_keeps rows i is later limit least g (get_or rows i no_row) (slice_get-get_or rows i no_row (g.extra.there i (inl (inl refl)))) refl (K.fits (get_or rows i no_row).cost (guess (get_or rows i no_row).key))

  begin_good : M.held start ≡ true → Standing (begin K M guess cap start)
  begin_good h = record {
    inv = begins one M start NoneTook _ h (inl (inl refl));
    extra = record { there = λ j h. grind arith; high = λ j r h a. absurd h; low = λ t ks w r. guided t start ks w h r };
  }

  pub fringe_shows : M.held start ≡ true → (o : Outcome) → Ends (λ s. fringe K M guess cap s.waits.now s) (begin K M guess cap start) o → Shows one M Guided start o
  fringe_shows h o e = through (λ s. fringe K M guess cap s.waits.now s) Standing (Shows one M Guided start) turn_keeps (begin_good h) e
