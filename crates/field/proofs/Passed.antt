-- What holds of a layout and a map that the check passed.
use Rattle.std.proofs.Common.{◌≡◌, ℕ, ◌*◌, true, not, List, length, get_or, None, Ok, arith}
use Rattle.std.proofs.lemmas.Grind.{common_steps}
use Rattle.std.proofs.lemmas.List.{get_or_past}
use Rattle.std.proofs.lemmas.List.Sums.{fails_before_first}
use Rattle.field.specs.declared.layout.Layout.{Layout}
use Rattle.field.specs.Checking.{in_range, is_cell, first_wrong, verdict}

pub record Passed (l : Layout) (map : List ℕ) : Type 0 where
  pub range : in_range l ≡ true
  pub whole : length map ≡ l.columns * l.rows
  pub cells : (i : ℕ) → is_cell (get_or map i 0) ≡ true

-- where no byte is wrong, each stands for a cell
all_cells : (map : List ℕ) → first_wrong map ≡ None → (i : ℕ) → is_cell (get_or map i 0) ≡ true
all_cells map e i = grind (arith, common_steps, fails_before_first (λ byte. not (is_cell byte)) map i 0, get_or_past map i 0)

pub passed : (l : Layout) (map : List ℕ) → verdict l map ≡ Ok tt → Passed l map
passed l map e = grind (arith, common_steps, all_cells map)
