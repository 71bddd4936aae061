-- What a field means as a graph: its keys are those of cells.
use Rattle.std.specs.Prelude.{ℕ, ◌/◌, ◌%◌, Bool, false, cond, List}
use Rattle.graph.specs.Meaning.{Road, Meaning, meaning}
use Rattle.graph.specs.Routes.{IsTrueGuess}
use Rattle.field.specs.declared.layout.Layout.{Layout}
use Rattle.field.specs.Cells.{byte_at, held_at, step_in, target_at, guess_at}

-- the column and the row of the cell that has a key
abbrev pub column_of : ℕ → ℕ
column_of k = k % 65536

abbrev pub row_of : ℕ → ℕ
row_of k = k / 65536

-- whether the cell that has a key is held
abbrev pub field_held : Layout → List ℕ → ℕ → Bool
field_held l map k = held_at l map (column_of k) (row_of k)

-- its zone, its roads, and whether it is a goal; a cell that is not held has none of this
abbrev pub field_zone : Layout → List ℕ → ℕ → ℕ
field_zone l map k = cond (field_held l map k) (byte_at l map (column_of k) (row_of k)) 0

abbrev pub field_count : Layout → List ℕ → ℕ → ℕ
field_count l map k = cond (field_held l map k) 4 0

abbrev pub field_road : Layout → List ℕ → (key rank : ℕ) → Road
field_road l map k rank = step_in l map (column_of k) (row_of k) rank

abbrev pub field_goal : Layout → List ℕ → ℕ → Bool
field_goal l map k = cond (field_held l map k) (target_at l (column_of k) (row_of k)) false

-- what a field says of each key, but for the guess
abbrev pub field_meaning : Layout → List ℕ → Meaning
field_meaning l map =
    meaning (field_held l map) (field_zone l map) (field_count l map) (field_road l map) (field_goal l map)

-- the guess of a field at each key
abbrev pub field_guess : Layout → List ℕ → ℕ → ℕ
field_guess l map k = cond (field_held l map k) (guess_at l (column_of k) (row_of k)) 0

-- the guess of a field is true
abbrev pub HasTrueGuess : Layout → List ℕ → Type 0
HasTrueGuess l map = IsTrueGuess (field_meaning l map) (field_guess l map)
