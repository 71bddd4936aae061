-- A hole among the entries: what is read of them once it is filled, and what moving it and filling it keep.
use Rattle.std.proofs.Common.{◌≡◌, ℕ, ◌+◌, ◌<◌, ◌≤◌, List, [], ◌∷◌, ◌++◌, length, get_or, set, ◌∙◌, ⊎_elim, length-append, arith}
use Rattle.std.specs.List.{swap}
use Rattle.std.specs.List.Sorted.{IsPermutation}
use Rattle.std.proofs.lemmas.List.{length-set, set-set, get_or-set_same, get_or-set_other, get_or_append_left, same_lists}
use Rattle.std.proofs.lemmas.List.Edits.{swap_is}
use Rattle.std.proofs.lemmas.List.Sorted.{IsPermutation-swap}
use Rattle.std.proofs.lemmas.Bool.{cases_eq}
use Rattle.std.proofs.lemmas.Grind.{common_steps}
use Rattle.store.specs.declared.slots.Entry.{Entry}
use Rattle.store.specs.declared.slots.Slot.{Slot}
use Rattle.store.specs.Slots.{entry_at, entries, filled, nth, IsAhead, IsChild, IsBestChild, IsPlaced, IsHeap, IsHeapBut, IsOver, IsUnder, HasHole, Seated, Settled}
use Rattle.store.proofs.Seats.{length_entries, entries_at, entries_over}
use Rattle.store.proofs.Sifts.{raised, raised_over, lowered, loosened}

-- a slot with an entry
abbrev slot_of : {C : Type 0} → Entry C → Slot C
slot_of e = record { entry = e; place = 0; order = 0 }

module _ {C : Type 0} (xs : List (Slot C)) (n h : ℕ) (e : Entry C) (ln : n ≤ length xs) where
  pub length_filled : length (filled xs n h e) ≡ n
  length_filled = length-set (entries xs n) h e ∙ length_entries xs n ln

  pub filled_here : (d : Entry C) → h < n → nth (filled xs n h e) d h ≡ e
  filled_here d lh = get_or-set_same (entries xs n) h e d (omega (arith, length_entries xs n ln))

  pub filled_other : (k : ℕ) (d : Entry C) (d₀ : Slot C) → k < n → (k ≡ h → ⊥) → nth (filled xs n h e) d k ≡ entry_at xs d₀ k
  filled_other k d d₀ lk nk = get_or-set_other (entries xs n) h k e d nk ∙ entries_at xs n k d₀ d ln lk

-- the place after the last filled
pub filled_next : {C : Type 0} (xs : List (Slot C)) (n : ℕ) (e : Entry C) → n < length xs → filled xs (n + 1) n e ≡ entries xs n ++ e ∷ []
filled_next xs n e lt =
    let l = length_entries xs n (omega arith) in
    let l' = length_filled xs (n + 1) n e (omega arith) in
    same_lists (filled xs (n + 1) n e) (entries xs n ++ e ∷ []) (omega (arith, length-append (entries xs n) (e ∷ [])))
    (λ k d lk.
    ⊎_elim
    (λ (q : k ≡ n). let a = filled_here xs (n + 1) n e (omega arith) d (omega arith) in grind (arith, common_steps))
    (λ nk.
    let lk' : k < n = omega arith in
    let a = filled_other xs (n + 1) n e (omega arith) k d (slot_of d) (omega arith) nk in
    let b = entries_at xs n k (slot_of d) d (omega arith) lk' in
    let c = get_or_append_left (entries xs n) (e ∷ []) d k (omega arith) in
    cc)
    (cases_eq k n))

-- what a move of the hole from h to k keeps
pub record Moved {C : Type 0} (xs ys : List (Slot C)) (n h k : ℕ) (e : Entry C) : Type 0 where
  pub hole : HasHole ys n k e
  pub swapped : filled ys n k e ≡ swap (filled xs n h e) h k
  pub same : IsPermutation (filled xs n h e) (filled ys n k e)

pub moved : {C : Type 0} (xs ys : List (Slot C)) (n h k : ℕ) (e a : Entry C) → n ≤ length xs → h < n → k < n → (k ≡ h → ⊥) → ((d : Slot C) → a ≡ entry_at xs d k) → HasHole xs n h e → Seated xs ys h a → Moved xs ys n h k e
moved {C} xs ys n h k e a ln lh lk nk own o s =
    let fs : List (Entry C) = filled xs n h e in
    let l = length_filled xs n h e ln in
    let is = entries_over xs ys a n h ln lh s in
    let w = swap_is fs h k e (omega arith) (omega arith) in
    let gh = filled_here xs n h e ln e lh in
    let gk = filled_other xs n h e ln k e (slot_of e) lk nk in
    let ow = own (slot_of e) in
    let ss = set-set (entries xs n) h e a in
    let swapped : filled ys n k e ≡ swap fs h k = cc in
    record {
      hole = λ j d lj nj.
          let pk = o k d lk nk in
          let ak = own d in
          let hh = s.here d in
          let hp = s.place d in
          let sl = s.long in
          ⊎_elim
          (λ (q : j ≡ h). grind arith)
          (λ nh.
          let pj = o j d lj nh in
          let oj = s.others j d nh in
          let op = s.places (entry_at xs d j).row d in
          grind arith)
          (cases_eq j h);
      swapped = swapped;
      same = IsPermutation-swap fs (filled ys n k e) h k (omega arith) (omega arith) swapped;
    }

-- and what it keeps of the order: e comes out before the children of the hole on the way up
pub record WentDown {C : Type 0} (w : C → ℕ) (xs ys : List (Slot C)) (n h k : ℕ) (e : Entry C) : Type 0 where
  pub hole : HasHole ys n k e
  pub loose : IsHeapBut w (filled ys n k e) k
  pub same : IsPermutation (filled xs n h e) (filled ys n k e)

pub record WentUp {C : Type 0} (w : C → ℕ) (xs ys : List (Slot C)) (n h k : ℕ) (e : Entry C) : Type 0 where
  pub hole : HasHole ys n k e
  pub loose : IsHeapBut w (filled ys n k e) k
  pub over : IsOver w (filled ys n k e) k
  pub same : IsPermutation (filled xs n h e) (filled ys n k e)

module _ {C : Type 0} (w : C → ℕ) (xs : List (Slot C)) (n h k : ℕ) (e : Entry C) {a : Entry C} (ln : n ≤ length xs) (own : (d : Slot C) → a ≡ entry_at xs d k) where
  -- the parent of the hole comes out before the entry that fills it
  pub filled_under : IsChild k h → h < n → IsAhead w a e → IsUnder w (filled xs n h e) h
  filled_under c lh t d p cp =
      let q : p ≡ k = omega arith in
      let x = filled_here xs n h e ln d lh in
      let y = filled_other xs n h e ln k d (slot_of d) (omega arith) (λ z. omega arith) in
      let z = own (slot_of d) in
      grind arith

  module _ {ys : List (Slot C)} (o : HasHole xs n h e) (b : IsHeapBut w (filled xs n h e) h) (s : Seated xs ys h a) where
    -- the hole goes up to the parent k of h
    pub went_up : IsChild k h → h < n → IsAhead w e a → WentUp w xs ys n h k e
    went_up c lh t =
        let m = moved xs ys n h k e a ln lh (omega arith) (λ q. omega arith) own o s in
        let lf : h < length (filled xs n h e) = omega (arith, length_filled xs n h e ln) in
        record {
          hole = m.hole;
          loose = raised w (filled xs n h e) (filled ys n k e) h k c lf m.swapped b;
          over = raised_over w (filled xs n h e) (filled ys n k e) h k c lf m.swapped b
              (λ d.
              let x = filled_here xs n h e ln d lh in
              let y = filled_other xs n h e ln k d (slot_of d) (omega arith) (λ z. omega arith) in
              let z = own (slot_of d) in
              grind arith);
          same = m.same;
        }

    -- the hole goes down to the better child k of h
    pub went_down : IsChild h k → k < n → IsBestChild w xs n h k → WentDown w xs ys n h k e
    went_down c lk best =
        let m = moved xs ys n h k e a ln (omega arith) lk (λ q. omega arith) own o s in
        record {
          hole = m.hole;
          loose = lowered w (filled xs n h e) (filled ys n k e) h k c (omega (arith, length_filled xs n h e ln)) m.swapped
              (λ d i ci li.
              let lf = length_filled xs n h e ln in
              let x = filled_other xs n h e ln k d (slot_of d) lk (λ z. omega arith) in
              let y = filled_other xs n h e ln i d (slot_of d) (omega arith) (λ z. omega arith) in
              let z = best (slot_of d) i ci (omega arith) in
              grind arith)
              b;
          same = m.same;
        }

-- the hole filled
pub settled : {C : Type 0} (w : C → ℕ) {xs ys zs : List (Slot C)} {n from h : ℕ} {e : Entry C} → n ≤ length xs → length xs ≤ 65536 → length ys ≡ length xs → h < n → e.row < length xs → HasHole ys n h e → IsHeap w (filled ys n h e) → IsPermutation (filled xs n from e) (filled ys n h e) → Seated ys zs h e → Settled w xs zs n from e
settled w {xs} {ys} {zs} {n} {from} {h} {e} ln lf long lh lr o p m s =
    let is = entries_over ys zs e n h (omega arith) lh s in
    record {
      heap = rw is p;
      kept = record {
        fits = omega (arith, s.long);
        few = omega (arith, s.long);
        placed = λ k d lk.
            let hh = s.here d in
            let hp = s.place d in
            let sl = s.long in
            ⊎_elim
            (λ (q : k ≡ h). grind arith)
            (λ nk.
            let pk = o k d lk nk in
            let ok = s.others k d nk in
            let op = s.places (entry_at ys d k).row d in
            grind arith)
            (cases_eq k h);
      };
      same = rw is m;
      long = s.long ∙ long;
    }

-- an entry in place of another
module _ {C : Type 0} (w : C → ℕ) (xs : List (Slot C)) (n h : ℕ) (e : Entry C) (ln : n ≤ length xs) (p : IsHeap w (entries xs n)) where
  pub loose_again : IsHeapBut w (filled xs n h e) h
  loose_again =
      let es : List (Entry C) = entries xs n in
      loosened w es (set es h e) h p (λ m lm nm. (rw length-set at lm, λ d. get_or-set_other es h m e d nm))

  pub over_again : (old : Entry C) → h < n → ((d : Slot C) → old ≡ entry_at xs d h) → IsAhead w e old → IsOver w (filled xs n h e) h
  over_again old lh own t d i c li =
      let lf = length_filled xs n h e ln in
      let le = length_entries xs n ln in
      let x = filled_here xs n h e ln d lh in
      let y = filled_other xs n h e ln i d (slot_of d) (omega arith) (λ z. omega arith) in
      let a = p d h i c (omega arith) in
      let eh = entries_at xs n h (slot_of d) d ln lh in
      let ei = entries_at xs n i (slot_of d) d ln (omega arith) in
      let z = own (slot_of d) in
      grind arith

-- an entry after the last
module _ {C : Type 0} (w : C → ℕ) (xs : List (Slot C)) (n : ℕ) (e : Entry C) (lt : n < length xs) where
  pub loose_next : IsHeap w (entries xs n) → IsHeapBut w (filled xs (n + 1) n e) n
  loose_next p =
      let es : List (Entry C) = entries xs n in
      let long = length_entries xs n (omega arith) in
      rw (filled_next xs n e lt) (loosened w es (es ++ e ∷ []) n p (λ m lm nm. let l : m < length es = omega (arith, length-append es (e ∷ [])) in (l, λ d. get_or_append_left es (e ∷ []) d m l)))

  pub over_next : IsOver w (filled xs (n + 1) n e) n
  over_next d i c l = let lf = length_filled xs (n + 1) n e (omega arith) in absurd (omega arith)
