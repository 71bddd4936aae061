-- What is below a number is below a greater one: the law of what waits, for the heap and for the queues.
use Rattle.std.specs.Prelude.{ℕ, ◌<◌, ◌≤◌, List, [], ◌∷◌}
use Rattle.std.specs.List.{AllByRecursion}
use Rattle.std.proofs.Math.Nat.{le_trans}
use Rattle.store.specs.declared.slots.Waiting.{Waiting}
use Rattle.store.specs.Heaps.{Waits}
use Rattle.planner.specs.Standing.{Below}
use Rattle.planner.specs.Entries.{EntriesBelow}
use Rattle.planner.specs.TwoQueues.{Limited, QueuesBelow}

below : (m n : ℕ) (js : List ℕ) → m ≤ n → Below m js → Below n js
below m n [] l b = tt
below m n (j ∷ js) l b = (le_trans b.0 l, below m n js l b.1)

entries : {C : Type 0} (m n : ℕ) (q : List (Waiting C)) → m ≤ n → AllByRecursion (λ x. x.row < m) q → AllByRecursion (λ x. x.row < n) q
entries m n [] l b = tt
entries m n (x ∷ q) l b = (le_trans b.0 l, entries m n q l b.1)

pub wider_entries : {C : Type 0} (m n : ℕ) (h : Waits C) → m ≤ n → EntriesBelow m h → EntriesBelow n h
wider_entries m n h l b = entries m n h.waits l b

pub wider_queues : {C : Type 0} (m n : ℕ) (q : Limited C) → m ≤ n → QueuesBelow m q → QueuesBelow n q
wider_queues m n q l b = (below m n q.queues.now l b.0, below m n q.queues.later l b.1)
