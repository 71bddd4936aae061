-- The numbers that stand in bytes.
use Rattle.std.specs.Prelude.{ℕ, ◌+◌, ◌*◌, List, slice_index}

-- the number that stands in the four bytes from a place on, the least byte first
unfoldable pub word_at : List ℕ → ℕ → ℕ
word_at bytes at =
    slice_index bytes at + 256 * slice_index bytes (at + 1) + 65536 * slice_index bytes (at + 2) + 16777216 * slice_index bytes (at + 3)
