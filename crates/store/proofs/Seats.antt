-- What a write of an entry at a place keeps, and what it makes of the entries.
use Rattle.std.proofs.Common.{◌≡◌, ℕ, ◌+◌, ◌<◌, ◌≤◌, eqb, List, [], ◌∷◌, ◌++◌, map, length, get_or, take, set, sym, ap, ◌∙◌, ⊎_elim, arith}
use Rattle.std.specs.List.{swap, IsDistinct}
use Rattle.std.proofs.lemmas.List.{get_or_default, take-map, take-take, same_lists}
use Rattle.std.proofs.lemmas.Bool.{cases_eq}
use Rattle.std.proofs.lemmas.List.Edits.{swap_is}
use Rattle.std.proofs.lemmas.Map.Keys.{IsDistinct-from_apart}
use Rattle.std.proofs.lemmas.Grind.{common_steps}
use Rattle.store.specs.declared.slots.Entry.{Entry}
use Rattle.store.specs.declared.slots.Slot.{Slot}
use Rattle.store.specs.Slots.{entry_at, entry_of, entries, IsPlaced, Seated}
use Rattle.store.proofs.Fronts.{length_front, read_front}

pub length_entries : {C : Type 0} (xs : List (Slot C)) (n : ℕ) → n ≤ length xs → length (entries xs n) ≡ n
length_entries = length_front entry_of

pub entries_at : {C : Type 0} (xs : List (Slot C)) (n k : ℕ) (d : Slot C) (e : Entry C) → n ≤ length xs → k < n → get_or (entries xs n) k e ≡ entry_at xs d k
entries_at = read_front entry_of

pub entries_less : {C : Type 0} (xs : List (Slot C)) (m n : ℕ) → m ≤ n → entries xs m ≡ take m (entries xs n)
entries_less xs m n l = ap (map entry_of) (sym (take-take m n xs l)) ∙ sym (take-map entry_of m (take n xs))

-- the slot of a row has the place of its entry
pub place_is : {C : Type 0} (xs : List (Slot C)) (n r k : ℕ) (d : Entry C) (d₀ : Slot C) → n ≤ length xs → IsPlaced xs n → k < n → (get_or (entries xs n) k d).row ≡ r → (get_or xs r d₀).place ≡ k
place_is xs n r k d d₀ ln p lk q = let e = entries_at xs n k d₀ d ln lk in let o = p k d₀ lk in grind arith

-- a slot with another entry, and with another place
abbrev pub holding : {C : Type 0} → Slot C → Entry C → Slot C
holding s e = record { entry = e; place = s.place; order = s.order }

abbrev pub placed : {C : Type 0} → Slot C → ℕ → Slot C
placed s i = record { entry = s.entry; place = i; order = s.order }

-- the entry at a place in use, whatever stands for one past the end
pub at_any : {C : Type 0} (xs : List (Slot C)) (i : ℕ) (d₁ : Slot C) → i < length xs → (d : Slot C) → entry_at xs d₁ i ≡ entry_at xs d i
at_any xs i d₁ l d = grind (arith, get_or_default)

pub seated : {C : Type 0} (xs : List (Slot C)) (i : ℕ) (e : Entry C) (d₁ d₂ : Slot C) → i < length xs → e.row < length xs → Seated xs (set (set xs i (holding (get_or xs i d₁) e)) e.row (placed (get_or (set xs i (holding (get_or xs i d₁) e)) e.row d₂) i)) i e
seated xs i e d₁ d₂ lt ltr = grind (arith, common_steps)

-- a write over an entry
module _ {C : Type 0} (xs ys : List (Slot C)) (e : Entry C) where
  pub entries_over : (n i : ℕ) → n ≤ length xs → i < n → Seated xs ys i e → entries ys n ≡ set (entries xs n) i e
  entries_over n i ln li s =
      same_lists (entries ys n) (set (entries xs n) i e) (grind (arith, common_steps))
      (λ k d lk.
      let t : Slot C = record { entry = d; place = 0; order = 0 } in
      let h = s.here t in
      let o = s.others k t in
      grind (arith, common_steps))

-- no two entries are of one row
pub rows_differ : {C : Type 0} (xs : List (Slot C)) (n : ℕ) → n ≤ length xs → IsPlaced xs n → IsDistinct (λ a b. eqb a.row b.row) (entries xs n)
rows_differ {C} xs n ln p =
    IsDistinct-from_apart (λ (a b : Entry C). eqb a.row b.row) (entries xs n)
    (λ i j d lt lj.
    let s : Slot C = record { entry = d; place = 0; order = 0 } in
    let l = length_entries xs n ln in
    let a = place_is xs n (get_or (entries xs n) i d).row i d s ln p (omega arith) in
    let b = place_is xs n (get_or (entries xs n) j d).row j d s ln p (omega arith) in
    grind (arith, common_steps))
