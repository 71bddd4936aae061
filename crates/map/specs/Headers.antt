-- What the lines before the map say, by their words.
use Rattle.std.specs.Prelude.{◌≡◌, ◌≢◌, ℕ, ◌^◌, ◌==◌, Bool, false, true, ◌&&◌, List, [], ◌∷◌, drop, length, replicate, if◌then◌else◌, Some, None, Option, option_and_then, slice_get, slice_set, nat_lt, codes, Result, MatchResult}
use Rattle.std.specs.List.{list_any}
use Rattle.std.specs.Option.{option_map}
use Rattle.std.specs.Str.{chars, all_ascii_digits}
use Rattle.std.specs.Str.Parse.{without_leading_plus, digits_value}
use Rattle.map.specs.declared.header.Header.{Header}
use Rattle.map.specs.declared.header.Header.TheVariants.{Blank, Field, Start, Target, Fence, Toll, Map}
use Rattle.map.specs.declared.header.Size.{Size}
use Rattle.map.specs.declared.mistake.Mistake.{Mistake}
use Rattle.map.specs.declared.mistake.Mistake.TheVariants as mistake
use Rattle.map.specs.Signs.{byte_of}

-- the number of so many bits that a word is, in decimal
abbrev pub number_of : ℕ → List ℕ → Option ℕ
number_of bits word =
    let digits = without_leading_plus word in
    if (nat_lt 0 (length digits) && all_ascii_digits digits) && nat_lt (digits_value 10 digits) (2 ^ bits) then Some (digits_value 10 digits) else None

-- and that the word at this place is
abbrev pub number_at : ℕ → ℕ → List (List ℕ) → Option ℕ
number_at bits i words = option_and_then (number_of bits) (slice_get words i)

-- columns, rows and a step, and nothing after them
abbrev pub size_of : List (List ℕ) → Option Size
size_of words =
    option_and_then (λ columns. option_and_then (λ rows. option_and_then (λ step.
    if length words == 3 then Some (record { columns = columns; rows = rows; step = step }) else None)
    (number_at 32 2 words)) (number_at 16 1 words)) (number_at 16 0 words)

-- a column and a row, and nothing after them
abbrev pub cell_of : List (List ℕ) → Option (ℕ × ℕ)
cell_of words =
    option_and_then (λ column. option_and_then (λ row.
    if length words == 2 then Some (column, row) else None)
    (number_at 16 1 words)) (number_at 16 0 words)

-- a zone that stands for itself
abbrev pub zone_from : Option ℕ → Option ℕ
zone_from byte = option_and_then (λ b. if nat_lt b 64 then Some b else None) byte

-- the zone whose sign is the one character
abbrev pub zone_in : List ℕ → Option ℕ
zone_in [] = None
zone_in (sign ∷ signs) = option_and_then (λ zone. if length signs == 0 then Some zone else None) (zone_from (byte_of sign))

-- the zone whose sign is the word
abbrev pub zone_of : List ℕ → Option ℕ
zone_of word = zone_in (chars word)

-- these zones with those whose signs are the words
abbrev pub zones_with : List Bool → List (List ℕ) → Option (List Bool)
zones_with zones [] = Some zones
zones_with zones (word ∷ words) = option_and_then (λ zone. zones_with (slice_set zones zone true) words) (zone_of word)

-- the zones whose signs are the words, if there is one
abbrev pub zones_of : List (List ℕ) → Option (List Bool)
zones_of words = option_and_then (λ zones. if list_any (λ zone. zone) zones then Some zones else None) (zones_with (replicate 64 false) words)

-- milliseconds, and zones
abbrev pub toll_of : List (List ℕ) → Option (ℕ × List Bool)
toll_of words = option_and_then (λ millis. option_map (λ zones. (millis, zones)) (zones_of (drop 1 words))) (number_at 32 0 words)

-- the words are the named one, and others of which this holds
abbrev pub Named : List ℕ → List (List ℕ) → (List (List ℕ) → Type 0) → Type 0
Named name words says = (more : List (List ℕ)) × (words ≡ name ∷ more) × says more

-- the words are what this header says
abbrev pub SaysHeader : List (List ℕ) → Header → Type 0
SaysHeader words Blank = words ≡ []
SaysHeader words (Field size) = Named (codes "field") words (λ more. size_of more ≡ Some size)
SaysHeader words (Start cell) = Named (codes "start") words (λ more. cell_of more ≡ Some (cell.column, cell.row))
SaysHeader words (Target cell) = Named (codes "target") words (λ more. cell_of more ≡ Some (cell.column, cell.row))
SaysHeader words (Fence zones) = Named (codes "fence") words (λ more. zones_of more ≡ Some zones)
SaysHeader words (Toll charge) = Named (codes "toll") words (λ more. toll_of more ≡ Some (charge.cost.millis, charge.zones))
SaysHeader words Map = words ≡ codes "map" ∷ []

-- the word is none that begins a line
abbrev pub IsUnknown : List ℕ → Type 0
IsUnknown word = (word ≢ codes "field") × (word ≢ codes "start") × (word ≢ codes "target") × (word ≢ codes "fence") × (word ≢ codes "toll") × (word ≢ codes "map")

-- the words say nothing, by this mistake
abbrev pub LacksHeader : List (List ℕ) → Mistake → Type 0
LacksHeader words mistake.Keyword = (word : List ℕ) × Named word words (λ _. IsUnknown word)
LacksHeader words mistake.Size = Named (codes "field") words (λ more. size_of more ≡ None)
LacksHeader words mistake.Start = Named (codes "start") words (λ more. cell_of more ≡ None)
LacksHeader words mistake.Target = Named (codes "target") words (λ more. cell_of more ≡ None)
LacksHeader words mistake.Fence = Named (codes "fence") words (λ more. zones_of more ≡ None)
LacksHeader words mistake.Toll = Named (codes "toll") words (λ more. toll_of more ≡ None)
LacksHeader words mistake.Map = Named (codes "map") words (λ more. more ≢ [])
LacksHeader words _ = ⊥

-- the words are read as what they say, or refused by the mistake that they make
abbrev pub ReadsHeader : List (List ℕ) → Result Header Mistake → Type 0
ReadsHeader words r = MatchResult r (SaysHeader words) (LacksHeader words)
