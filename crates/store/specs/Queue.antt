-- What waits in a heap, as a list in the order of the pushes. The crate `search` defines the same of its own entries: neither knows
-- the other.
use Rattle.std.specs.Prelude.{ℕ, Bool, cond, not, ◌&&◌, ◌||◌, List, [], ◌∷◌, ◌++◌, map, Some, None, Option, option_map, ◌==◌, nat_lt}
use Rattle.std.specs.List.{filter}
use Rattle.store.specs.declared.slots.Entry.{Entry}
use Rattle.store.specs.declared.slots.Waiting.{Waiting}

-- the row that waits, without the number of its push
abbrev pub waiting : {C : Type 0} → Entry C → Waiting C
waiting e = record { row = e.row; estimate = e.estimate; cost = e.cost }

-- x put among ys by its push number
abbrev pub among : {C : Type 0} → Entry C → List (Entry C) → List (Entry C)
among x [] = x ∷ []
among x (y ∷ ys) = cond (nat_lt x.push y.push) (x ∷ y ∷ ys) (y ∷ among x ys)

abbrev pub by_push : {C : Type 0} → List (Entry C) → List (Entry C)
by_push [] = []
by_push (x ∷ xs) = among x (by_push xs)

-- what waits, in the order of the pushes
unfoldable pub queue : {C : Type 0} → List (Entry C) → List (Waiting C)
queue es = map waiting (by_push es)

-- the queue with nothing for row r
abbrev pub without : {C : Type 0} → ℕ → List (Waiting C) → List (Waiting C)
without r q = filter (λ x. not (x.row == r)) q

-- what a push leaves: the row's older entry goes, and the new one comes last
abbrev pub pushed : {C : Type 0} → List (Waiting C) → ℕ → C → C → List (Waiting C)
pushed q r e c = without r q ++ record { row = r; estimate = e; cost = c } ∷ []

-- y, which was pushed after x, comes out before it
abbrev pub overtakes : {C : Type 0} → (C → ℕ) → Waiting C → Waiting C → Bool
overtakes w y x = nat_lt (w y.estimate) (w x.estimate) || (w y.estimate == w x.estimate && nat_lt (w x.cost) (w y.cost))

abbrev pub sooner : {C : Type 0} → (C → ℕ) → Waiting C → Option (Waiting C) → Option (Waiting C)
sooner w x None = Some x
sooner w x (Some y) = Some (cond (overtakes w y x) y x)

-- the first out: the least estimate, then the greatest cost, then the earliest push
abbrev pub first_out : {C : Type 0} → (C → ℕ) → List (Waiting C) → Option (Waiting C)
first_out w [] = None
first_out w (x ∷ xs) = sooner w x (first_out w xs)

-- what is left once r is taken out
abbrev pub left : {C : Type 0} → Option (Waiting C) → List (Waiting C) → List (Waiting C)
left None q = q
left (Some x) q = without x.row q

-- what a push of an entry leaves, and what is left once an entry is taken out
abbrev pub queue_after : {C : Type 0} → Entry C → List (Waiting C) → List (Waiting C)
queue_after e q = pushed q e.row e.estimate e.cost

abbrev pub queue_without : {C : Type 0} → Option (Entry C) → List (Waiting C) → List (Waiting C)
queue_without e q = left (option_map waiting e) q
