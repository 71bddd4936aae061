-- The key of a cell, and its mark.
use Rattle.std.specs.Prelude.{ℕ, ◌+◌, ◌*◌}

abbrev pub cell_key : (column row : ℕ) → ℕ
cell_key column row = row * 65536 + column

-- the keys of a column share their remainder by every power of two up to 65,536, the marks do not
abbrev pub cell_mark : (column row : ℕ) → ℕ
cell_mark column row = row * 257 + column
