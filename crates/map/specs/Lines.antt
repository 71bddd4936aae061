-- The lines of a text, which are counted as they are taken.
use Rattle.std.specs.Prelude.{◌≡◌, ℕ, ◌+◌, ◌-◌, ◌^◌, min, List, [], ◌∷◌, Option, Some, None}
use Rattle.std.specs.Iterator.{Count, at_most}
use Rattle.std.proofs.Common.{Bor, length}

-- so many lines were taken, and these are left
pub record LinesLeft : Type 0 where
  pub taken : ℕ
  pub lines : List (List ℕ)

-- the number of the line after so many, as far as a usize counts
abbrev pub number_after : ℕ → ℕ
number_after taken = min (taken + 1) (2 ^ 64 - 1)

-- the next line was taken with its number, if one was left
abbrev pub TakesLine : LinesLeft → Option (ℕ × Bor (List ℕ)) → LinesLeft → Type 0
TakesLine old None now = (old.lines ≡ []) × (now ≡ old)
TakesLine old (Some line) now = (old.lines ≡ line.1.now ∷ now.lines) × (now.taken ≡ old.taken + 1) × (line.0 ≡ old.taken + 1)

-- no more come than are left
abbrev pub lines_count : LinesLeft → Count
lines_count left = at_most (length left.lines)
