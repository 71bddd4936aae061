-- A field keeps the laws of graphs.
use Rattle.std.specs.Prelude.{◌≡◌, ℕ, ◌+◌, ◌*◌, ◌<◌, ◌≤◌, Bool, true, cond, List, Some, None, Option, slice_index, refl}
use Rattle.std.specs.Int.{abs_diff}
use Rattle.std.proofs.Common.{arith}
use Rattle.std.proofs.lemmas.Grind.{common_steps}
use Rattle.std.proofs.lemmas.Nat.{div-mul-add, mod-mul-add}
use Rattle.kinds.specs.Cell.{cell_key}
use Rattle.graph.specs.Meaning.{opened, closed, IsLawful}
use Rattle.field.specs.declared.layout.Layout.{Layout}
use Rattle.field.specs.Checking.{in_range, is_cell}
use Rattle.field.specs.Cells.{held_at, beside, to_cell, road_at}
use Rattle.field.specs.Means.{column_of, row_of, field_meaning, field_guess}

-- the column and the row of a cell's key are the cell's
pub column_of_key : (column row : ℕ) → column < 65536 → column_of (cell_key column row) ≡ column
column_of_key column row h = mod-mul-add row 65536 column h

pub row_of_key : (column row : ℕ) → column < 65536 → row_of (cell_key column row) ≡ row
row_of_key column row h = div-mul-add row 65536 column h

-- what an open road to a cell says
pub record Steps (l : Layout) (map : List ℕ) (column row to w : ℕ) : Type 0 where
  pub lands : held_at l map column row ≡ true
  pub there : cell_key column row ≡ to
  pub costs : l.step ≡ w

pub steps_to : (l : Layout) (map : List ℕ) (column row to w : ℕ) (b : Bool) → held_at l map column row ≡ b → cond b (opened (cell_key column row) l.step) closed ≡ opened to w → Steps l map column row to w
steps_to l map column row to w b h e = grind arith

-- what an open road from a cell says: it leads to a cell one column or one row on
pub record Neighbour (l : Layout) (map : List ℕ) (column row to w : ℕ) : Type 0 where
  pub to_column : ℕ
  pub to_row : ℕ
  pub steps : Steps l map to_column to_row to w
  pub near : abs_diff column to_column + abs_diff row to_row ≡ 1

pub neighbour : (l : Layout) (map : List ℕ) (column row rank to w : ℕ) → road_at l map column row rank ≡ opened to w → Neighbour l map column row to w
neighbour l map column row rank to w e = by (beside column row rank) refl e
  where
    by : (o : Option (ℕ × ℕ)) → beside column row rank ≡ o → to_cell l map o ≡ opened to w → Neighbour l map column row to w
    by None b h = cc
    by (Some cell) b h =
        record {
          to_column = cell.0;
          to_row = cell.1;
          steps = steps_to l map cell.0 cell.1 to w (held_at l map cell.0 cell.1) refl h;
          near = grind (arith, common_steps);
        }

-- a held cell is inside
pub held_column : (l : Layout) (map : List ℕ) (column row : ℕ) → held_at l map column row ≡ true → column < l.columns
held_column l map column row h = grind (arith, common_steps)

module _ (l : Layout) (map : List ℕ) (few : l.columns ≤ 256) (cells : (i : ℕ) → is_cell (slice_index map i) ≡ true) where
  pub field_lawful : IsLawful (field_meaning l map) (field_guess l map)
  field_lawful =
      record {
        zones = λ k. let c = cells (row_of k * l.columns + column_of k) in grind (arith, common_steps);
        counts = λ k. grind (arith, common_steps);
        leads = λ k rank to w e.
            let n = neighbour l map (column_of k) (row_of k) rank to w (grind (arith, common_steps)) in
            let c : n.to_column < 65536 = omega (arith, held_column l map n.to_column n.to_row n.steps.lands) in
            rw (← n.steps.there, column_of_key n.to_column n.to_row c, row_of_key n.to_column n.to_row c) n.steps.lands;
        past = λ k rank h. grind (arith, common_steps);
        no_zone = λ k h. rw h;
        no_roads = λ k h. rw h;
        no_guess = λ k h. rw h;
        no_goal = λ k h. rw h;
      }

-- a layout in range has few columns
pub few_columns : (l : Layout) → in_range l ≡ true → l.columns ≤ 256
few_columns l h = grind (arith, common_steps)
