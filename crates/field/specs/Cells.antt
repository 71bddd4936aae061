-- What a field says of each cell, by column and row.
use Rattle.std.specs.Prelude.{ℕ, ◌+◌, ◌-◌, ◌*◌, Bool, cond, not, ◌&&◌, List, Some, None, Option, ◌==◌, nat_lt, slice_index}
use Rattle.std.specs.Int.{abs_diff}
use Rattle.kinds.specs.Cell.{cell_key}
use Rattle.graph.specs.Meaning.{Road, opened, closed}
use Rattle.field.specs.declared.layout.Layout.{Layout}

-- the map's byte for a cell
abbrev pub byte_at : Layout → List ℕ → (column row : ℕ) → ℕ
byte_at l map column row = slice_index map (row * l.columns + column)

-- whether a cell is inside
abbrev pub inside : Layout → (column row : ℕ) → Bool
inside l column row = nat_lt column l.columns && nat_lt row l.rows

-- the cells that are held: those inside that are not solid
abbrev pub held_at : Layout → List ℕ → (column row : ℕ) → Bool
held_at l map column row = inside l column row && not (byte_at l map column row == 255)

-- the zone of a cell that is held
abbrev pub zone_in : Layout → List ℕ → (column row : ℕ) → Option ℕ
zone_in l map column row = cond (held_at l map column row) (Some (byte_at l map column row)) None

-- a road to a cell: open at one step if that cell is held
abbrev pub step_to : Layout → List ℕ → (column row : ℕ) → Road
step_to l map column row = cond (held_at l map column row) (opened (cell_key column row) l.step) closed

-- the cell beside a cell, by rank: 0 up, 1 right, 2 down, 3 left
abbrev pub beside : (column row rank : ℕ) → Option (ℕ × ℕ)
beside column row rank =
    cond (rank == 0) (cond (row == 0) None (Some (column, row - 1)))
    (cond (rank == 1) (Some (column + 1, row))
    (cond (rank == 2) (Some (column, row + 1))
    (cond (rank == 3) (cond (column == 0) None (Some (column - 1, row))) None)))

-- the road to a cell, if there is one
abbrev pub to_cell : Layout → List ℕ → Option (ℕ × ℕ) → Road
to_cell l map None = closed
to_cell l map (Some cell) = step_to l map cell.0 cell.1

-- the roads of a held cell, to the cells beside it
abbrev pub road_at : Layout → List ℕ → (column row rank : ℕ) → Road
road_at l map column row rank = to_cell l map (beside column row rank)

-- the roads of any cell: closed where it is not held
abbrev pub step_in : Layout → List ℕ → (column row rank : ℕ) → Road
step_in l map column row rank =
    cond (held_at l map column row) (road_at l map column row rank) closed

-- whether a cell is the target
abbrev pub target_at : Layout → (column row : ℕ) → Bool
target_at l column row = column == l.target.column && row == l.target.row

-- the guess at a cell: how far it is from the target in columns and in rows, at one step each
abbrev pub guess_at : Layout → (column row : ℕ) → ℕ
guess_at l column row = (abs_diff column l.target.column + abs_diff row l.target.row) * l.step
