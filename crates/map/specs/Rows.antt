-- What a row of a map says, by its line.
use Rattle.std.specs.Prelude.{◌≡◌, ℕ, ◌+◌, ◌==◌, ◌⊎◌, List, [], ◌∷◌, ◌++◌, length, if◌then◌else◌, Result, Ok, Err, MatchResult}
use Rattle.std.specs.Option.{option_map_or}
use Rattle.std.specs.Str.{chars, trim_end}
use Rattle.map.specs.declared.mistake.Mistake.{Mistake}
use Rattle.map.specs.declared.mistake.Mistake.TheVariants.{Sign, Width, Memory}
use Rattle.map.specs.Signs.{byte_of}

-- these bytes with those of the signs, the first of which stands in this column; or the first sign that stands for no cell
abbrev pub signs_read : List ℕ → ℕ → List ℕ → Result (List ℕ) Mistake
signs_read bytes column [] = Ok bytes
signs_read bytes column (sign ∷ signs) =
    option_map_or (λ byte. signs_read (bytes ++ byte ∷ []) (column + 1) signs) (byte_of sign) (Err (Sign column sign))

-- these bytes with those of a row of so many columns
abbrev pub row_read : List ℕ → ℕ → List ℕ → Result (List ℕ) Mistake
row_read bytes columns row =
    let signs = chars row in
    if length signs == columns then signs_read bytes 0 signs else Err (Width columns (length signs))

-- the line is read so, but where there is no memory
abbrev pub ReadsRow : List ℕ → ℕ → List ℕ → Result (Unit {0}) Mistake → List ℕ → Type 0
ReadsRow bytes columns line result now =
    MatchResult result (λ _. row_read bytes columns (trim_end line) ≡ Ok now)
    (λ mistake. (mistake ≡ Memory) ⊎ (row_read bytes columns (trim_end line) ≡ Err mistake))
