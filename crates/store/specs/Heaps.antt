-- What a heap holds.
use Rattle.std.specs.Prelude.{◌≡◌, ℕ, ◌+◌, ◌==◌, if◌then◌else◌, List, length, Option, MatchOption}
use Rattle.store.specs.declared.slots.Slot.{Slot}
use Rattle.store.specs.declared.slots.Waiting.{Waiting}

-- the slots that were lent, as they stand; what waits in the heap, in the order of the pushes; how many rows it serves; and the
-- number of the next push
pub record Waits (C : Type 0) : Type 0 where
  pub slots : List (Slot C)
  pub waits : List (Waiting C)
  pub rows : ℕ
  pub next : ℕ

-- the greatest number of 64 bits, which no push has
abbrev pub greatest_count : ℕ
greatest_count = 18446744073709551615

-- a push of the next number leaves this one for the push after it: one more; where the numbers are spent, the n entries are dealt
-- the first n, and the push has the one after those
abbrev pub next_after : ℕ → ℕ → ℕ
next_after next n = (if next == greatest_count then n else next) + 1

-- one goes from a list where there is an answer, and the list is empty where there is none
abbrev pub LosesOne : {X Y : Type 0} → Option X → List Y → List Y → Type 0
LosesOne answer old new = MatchOption answer (length new ≡ 0) (λ _. length new + 1 ≡ length old)
