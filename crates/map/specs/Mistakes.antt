-- What is wrong with a drawing, in words.
use Rattle.std.specs.Prelude.{ℕ, List, ◌++◌, codes, encode_utf8}
use Rattle.std.specs.Fmt.{decimal}
use Rattle.map.specs.declared.mistake.Mistake.{Mistake}
use Rattle.map.specs.declared.mistake.Mistake.TheVariants.{Keyword, Size, Start, Target, Fence, Toll, Map, Twice, Early, NoMap, Sign, Width, Short, Long, Memory}
use Rattle.map.specs.declared.mistake.Problem.{Problem}

-- what was expected, and then what was found
abbrev pub width_message : (columns found : ℕ) → List ℕ
width_message columns found =
    codes "expected a row of " ++ (decimal columns ++ (codes " cells, found " ++ decimal found))

abbrev pub short_message : (rows found : ℕ) → List ℕ
short_message rows found = codes "expected " ++ (decimal rows ++ (codes " rows, found " ++ decimal found))

abbrev pub message_of : Mistake → List ℕ
message_of Keyword = codes "expected field, start, target, fence, toll or map"
message_of Size = codes "expected field COLUMNS ROWS STEP, three numbers: 1 to 256, 1 to 128 and 1 to 1000"
message_of Start = codes "expected start COLUMN ROW, two numbers from 0 to 65535"
message_of Target = codes "expected target COLUMN ROW, two numbers from 0 to 65535"
message_of Fence = codes "expected fence ZONE, one or more zones by their signs"
message_of Toll =
    codes "expected toll MILLIS ZONE, a number from 0 to 4294967295 and one or more zones by their signs"
message_of Map = codes "expected map, with nothing after it"
message_of Twice = codes "expected no second line of this word"
message_of Early = codes "expected the lines field, start and target before the map"
message_of NoMap = codes "expected the line map, and the rows of the map after it"
message_of (Sign column sign) =
    codes "column " ++ (decimal column ++ (codes ": " ++ (encode_utf8 sign
    ++ codes " is no cell: expected # . 1 to 9, a to z, A to Z, + or -")))
message_of (Width columns found) = width_message columns found
message_of (Short rows found) = short_message rows found
message_of (Long rows) = codes "expected " ++ (decimal rows ++ codes " rows, and nothing after them")
message_of Memory = codes "no memory for the drawing"

-- and it stands behind the number of its line
abbrev pub message_at : Problem → List ℕ
message_at problem = codes "line " ++ (decimal problem.line ++ (codes ": " ++ message_of problem.mistake))
