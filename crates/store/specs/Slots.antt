-- Entries in slots: places, push numbers, and the order of a heap.
use Rattle.std.specs.Prelude.{◌≡◌, ℕ, ◌+◌, ◌*◌, ◌<◌, ◌≤◌, Bool, List, ◌∷◌, Option, length, map, take, MatchBool, MatchOption, ◌≢◌, ◌==◌, slice_index_or, slice_set}
use Rattle.std.specs.List.{All, IsDistinct}
use Rattle.std.specs.List.Sorted.{IsPermutation}
use Rattle.store.specs.declared.slots.Entry.{Entry}
use Rattle.store.specs.declared.slots.Slot.{Slot}

-- a comes out no later than b: less estimate, then greater cost, then earlier push
abbrev pub IsAhead : {C : Type 0} → (C → ℕ) → Entry C → Entry C → Type 0
IsAhead w a b =
    (w a.estimate ≤ w b.estimate)
    × (w a.estimate ≡ w b.estimate → (w b.cost ≤ w a.cost) × (w a.cost ≡ w b.cost → a.push ≤ b.push))

-- the slots, the entries by their places, and how many rows they may be of
pub record Seating (C : Type 0) : Type 0 where
  pub slots : List (Slot C)
  pub entries : List (Entry C)
  pub rows : ℕ

abbrev pub entry_of : {C : Type 0} → Slot C → Entry C
entry_of s = s.entry

abbrev pub place_of : {C : Type 0} → Slot C → ℕ
place_of s = s.place

-- the entries of the first n slots
abbrev pub entries : {C : Type 0} → List (Slot C) → ℕ → List (Entry C)
entries xs n = map entry_of (take n xs)

-- what slots are whose first n have the entries
abbrev pub seating : {C : Type 0} → List (Slot C) → ℕ → Seating C
seating xs n = record { slots = xs; entries = entries xs n; rows = length xs }

-- the entry in slot k
abbrev pub entry_at : {C : Type 0} → List (Slot C) → Slot C → ℕ → Entry C
entry_at xs d k = (slice_index_or xs k d).entry

-- each of the first n places has the entry of a row, whose slot says that place
abbrev pub IsPlaced : {C : Type 0} → List (Slot C) → ℕ → Type 0
IsPlaced {C} xs n =
    (k : ℕ) (d : Slot C) → k < n → ((entry_at xs d k).row < length xs) × ((slice_index_or xs (entry_at xs d k).row d).place ≡ k)

-- what each call keeps of the slots
pub record IsSeating {C : Type 0} (slots : List (Slot C)) (len : ℕ) : Type 0 where
  pub fits : len ≤ length slots
  pub few : length slots ≤ 65536
  pub placed : IsPlaced slots len

-- what a write of entry e at place i leaves
pub record Seated {C : Type 0} (xs ys : List (Slot C)) (i : ℕ) (e : Entry C) : Type 0 where
  pub here : (d : Slot C) → entry_at ys d i ≡ e
  pub others : (k : ℕ) (d : Slot C) → (k ≢ i) → entry_at ys d k ≡ entry_at xs d k
  pub place : (d : Slot C) → (slice_index_or ys e.row d).place ≡ i
  pub places : (k : ℕ) (d : Slot C) → (k ≢ e.row) → (slice_index_or ys k d).place ≡ (slice_index_or xs k d).place
  pub long : length ys ≡ length xs

-- no two entries have one push number
abbrev pub IsApart : {C : Type 0} → List (Entry C) → Type 0
IsApart es = IsDistinct (λ a b. a.push == b.push) es

abbrev pub IsCounted : {C : Type 0} → List (Entry C) → ℕ → Type 0
IsCounted es c = All (λ e. e.push < c) es

-- the entry at a place
abbrev pub nth : {C : Type 0} → List (Entry C) → Entry C → ℕ → Entry C
nth es d k = slice_index_or es k d

-- the answer says which of two entries comes out no later than the other
abbrev pub SaysAhead : {C : Type 0} → (C → ℕ) → Entry C → Entry C → Bool → Type 0
SaysAhead w a b answer = MatchBool answer (IsAhead w a b) (IsAhead w b a)

-- the same of the entries in two slots
abbrev pub SaysAheadAt : {C : Type 0} → (C → ℕ) → List (Slot C) → ℕ → ℕ → Bool → Type 0
SaysAheadAt {C} w xs i j answer = (d : Slot C) → SaysAhead w (entry_at xs d i) (entry_at xs d j) answer

-- the answer is the place of the entry of a row, or nothing where no entry is of that row
abbrev pub IsPlaceOf : {C : Type 0} → List (Entry C) → ℕ → Option ℕ → Type 0
IsPlaceOf {C} es row answer =
    MatchOption answer ((k : ℕ) (d : Entry C) → k < length es → (nth es d k).row ≢ row)
    (λ p. (p < length es) × ((d : Entry C) → (nth es d p).row ≡ row))

-- place i is a child of place p in the tree
abbrev pub IsChild : (p i : ℕ) → Type 0
IsChild p i = (2 * p < i) × (i ≤ 2 * p + 2)

-- the entry in slot c is ahead of each child of place h among the first n
abbrev pub IsBestChild : {C : Type 0} → (C → ℕ) → List (Slot C) → ℕ → ℕ → ℕ → Type 0
IsBestChild {C} w xs n h c = (d : Slot C) (i : ℕ) → IsChild h i → i < n → IsAhead w (entry_at xs d c) (entry_at xs d i)

-- each parent comes out before its children
abbrev pub IsHeap : {C : Type 0} → (C → ℕ) → List (Entry C) → Type 0
IsHeap {C} w es = (d : Entry C) (p i : ℕ) → IsChild p i → i < length es → IsAhead w (nth es d p) (nth es d i)

-- the same but for the entry at h, whose parent comes out before its children
abbrev pub IsHeapBut : {C : Type 0} → (C → ℕ) → List (Entry C) → ℕ → Type 0
IsHeapBut {C} w es h =
    (d : Entry C)
    → ((p i : ℕ) → IsChild p i → i < length es → (i ≢ h) → (p ≢ h) → IsAhead w (nth es d p) (nth es d i))
    × ((g i : ℕ) → IsChild g h → IsChild h i → i < length es → IsAhead w (nth es d g) (nth es d i))

-- the parent of h comes out before h
abbrev pub IsUnder : {C : Type 0} → (C → ℕ) → List (Entry C) → ℕ → Type 0
IsUnder {C} w es h = (d : Entry C) (p : ℕ) → IsChild p h → IsAhead w (nth es d p) (nth es d h)

-- h comes out before its children
abbrev pub IsOver : {C : Type 0} → (C → ℕ) → List (Entry C) → ℕ → Type 0
IsOver {C} w es h = (d : Entry C) (i : ℕ) → IsChild h i → i < length es → IsAhead w (nth es d h) (nth es d i)

-- of the first n places all but h have the entry of a row, whose slot says that place, and which is not the row of e
abbrev pub HasHole : {C : Type 0} → List (Slot C) → ℕ → ℕ → Entry C → Type 0
HasHole {C} xs n h e =
    (k : ℕ) (d : Slot C)
    → k < n
    → (k ≢ h)
    → ((entry_at xs d k).row < length xs)
    × ((slice_index_or xs (entry_at xs d k).row d).place ≡ k)
    × ((entry_at xs d k).row ≢ e.row)

-- the entries of the first n slots with e in the hole at h
abbrev pub filled : {C : Type 0} → List (Slot C) → ℕ → ℕ → Entry C → List (Entry C)
filled xs n h e = slice_set (entries xs n) h e

-- the first n entries of ys are a heap of those of xs with e in the hole at h
pub record Settled {C : Type 0} (w : C → ℕ) (xs ys : List (Slot C)) (n h : ℕ) (e : Entry C) : Type 0 where
  pub heap : IsHeap w (entries ys n)
  pub kept : IsSeating ys n
  pub same : IsPermutation (filled xs n h e) (entries ys n)
  pub long : length ys ≡ length xs

-- the first n + 1 entries of xs are the first of them and the first n of ys
abbrev pub TakesFirst : {C : Type 0} → List (Slot C) → List (Slot C) → ℕ → Type 0
TakesFirst {C} xs ys n = (d : Slot C) → IsPermutation (entries xs (n + 1)) (entry_at xs d 0 ∷ entries ys n)

-- what each call keeps of the entries, where the next push has number c
pub record IsSound {C : Type 0} (w : C → ℕ) (es : List (Entry C)) (c : ℕ) : Type 0 where
  pub apart : IsApart es
  pub counted : IsCounted es c
  pub heaped : IsHeap w es

-- what is counted by c in es is sound in fs
abbrev pub StaysSound : {C : Type 0} → (C → ℕ) → List (Entry C) → List (Entry C) → Type 0
StaysSound w es fs = (c : ℕ) → IsCounted es c → IsSound w fs c
