-- Which layouts and maps make a field, and how others are refused.
use Rattle.std.specs.Prelude.{ℕ, ◌*◌, Bool, cond, not, ◌&&◌, ◌||◌, List, ◌++◌, length, Some, None, Ok, Err, Option, Result, ◌==◌, nat_le, nat_lt, position, codes}
use Rattle.std.specs.Fmt.{decimal}
use Rattle.field.specs.declared.layout.Layout.{Layout}
use Rattle.field.specs.Cells.{inside}
use Rattle.field.specs.declared.refusal.FieldRefusal.{FieldRefusal}
use Rattle.field.specs.declared.refusal.FieldRefusal.TheVariants.{Size, Length, Byte}

-- the number by which users know a refusal
abbrev pub refusal_number : FieldRefusal → ℕ
refusal_number Size = 2
refusal_number Length = 3
refusal_number (Byte i) = 4

-- and the words by which they read it
abbrev pub message_of : FieldRefusal → List ℕ
message_of Size = codes "expected 1 to 256 columns, 1 to 128 rows, a step of 1 to 1000, and the target inside"
message_of Length = codes "expected one cell for each column of each row"
message_of (Byte i) = codes "the cell at position " ++ decimal i ++ codes " is no zone and not solid"

-- 1 to 256 columns, 1 to 128 rows, a step of 1 to 1,000, and the target inside
abbrev pub in_range : Layout → Bool
in_range l =
    nat_le 1 l.columns && nat_le l.columns 256
    && (nat_le 1 l.rows && nat_le l.rows 128)
    && (nat_le 1 l.step && nat_le l.step 1000)
    && inside l l.target.column l.target.row

-- a byte stands for a zone or for a solid cell
abbrev pub is_cell : ℕ → Bool
is_cell byte = nat_lt byte 64 || byte == 255

-- the first position of a byte that stands for no cell
abbrev pub first_wrong : List ℕ → Option ℕ
first_wrong map = position (λ byte. not (is_cell byte)) map

-- the answer about the bytes, by the first wrong position
abbrev pub byte_verdict : Option ℕ → Result (Unit {0}) FieldRefusal
byte_verdict None = Ok tt
byte_verdict (Some i) = Err (Byte i)

-- what the checking call answers: the first of the refusals, by their numbers, that has a reason
abbrev pub verdict : Layout → List ℕ → Result (Unit {0}) FieldRefusal
verdict l map =
    cond (in_range l) (cond (length map == l.columns * l.rows) (byte_verdict (first_wrong map)) (Err Length)) (Err Size)
