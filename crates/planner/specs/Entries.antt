-- What a heap of the code stands for.
use Rattle.std.specs.Prelude.{ℕ, ◌<◌, List, map}
use Rattle.std.specs.List.{AllByRecursion}
use Rattle.store.specs.Heaps.{Waits}
use Rattle.store.specs.declared.slots.Waiting.{Waiting}
use Rattle.search.specs.Queue.{Entry}
use Rattle.planner.specs.Standing.{Standing, IsServed}

abbrev pub entry_of : {C : Type 0} → (C → ℕ) → Waiting C → Entry
entry_of weight x = record { row = x.row; estimate = weight x.estimate; cost = weight x.cost }

abbrev pub entries_of : {C : Type 0} → (C → ℕ) → Waits C → List Entry
entries_of weight h = map (entry_of weight) h.waits

-- all that waits is below n
abbrev pub EntriesBelow : {C : Type 0} → ℕ → Waits C → Type 0
EntriesBelow n h = AllByRecursion (λ x. x.row < n) h.waits

-- a heap serves these rows
abbrev pub IsHeapOf : {C : Type 0} → Standing → Waits C → Type 0
IsHeapOf f h = IsServed (λ h. h.rows) EntriesBelow f h
