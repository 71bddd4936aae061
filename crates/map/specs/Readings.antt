-- What a text says, line by line: a plan and the bytes of a map, or the first problem. Below `taken` lines the next has
-- number taken + 1.
use Rattle.std.specs.Prelude.{◌≡◌, ℕ, ◌+◌, ◌==◌, ◌⊎◌, Bool, true, false, List, [], ◌∷◌, length, nat_lt, if◌then◌else◌, None, Option, Some, Result, Ok, Err, MatchResult}
use Rattle.std.specs.Result.{result_map_both}
use Rattle.std.specs.Str.{trim_end}
use Rattle.std.specs.Str.Lines.{lines}
use Rattle.field.specs.declared.layout.Layout.{Layout}
use Rattle.map.specs.declared.header.Header.{Header}
use Rattle.map.specs.declared.mistake.Mistake.{Mistake}
use Rattle.map.specs.declared.mistake.Mistake.TheVariants.{Early, NoMap, Short, Long, Memory}
use Rattle.map.specs.declared.mistake.Problem.{Problem}
use Rattle.map.specs.Words.{words}
use Rattle.map.specs.Headers.{SaysHeader, LacksHeader}
use Rattle.map.specs.Plans.{Planned, Said}
use Rattle.map.specs.Headings.{plan_of, TakesHeader}
use Rattle.map.specs.Lines.{LinesLeft, number_after}
use Rattle.map.specs.Rows.{row_read}

-- a mistake in the line of this number
abbrev pub at : ℕ → Mistake → Problem
at number mistake = record { line = number; mistake = mistake }

-- nothing was said yet
abbrev pub no_heading : Said
no_heading = record { size = None; start = None; target = None; layers = [] }

-- what a line before the map makes of the lines above it: its words are a header, or else a mistake
abbrev pub TakesHeading : Said → List ℕ → Result Bool Mistake → Said → Type 0
TakesHeading old line result now =
    ((header : Header) × SaysHeader (words line) header × TakesHeader old header result now)
    ⊎ ((mistake : Mistake) × LacksHeader (words line) mistake × (result ≡ Err mistake))

-- the plan of a heading, if it is whole, and what is left below so many lines
abbrev pub planned : Option Planned → ℕ → List (List ℕ) → Result (Planned × LinesLeft) Problem
planned (Some plan) taken below = Ok (plan, record { taken = taken; lines = below })
planned None taken below = Err (at taken Early)

-- what is read below a line that makes this of those above it: more of them, if the map does not begin
abbrev pub GoesOn : Type 0 → Result Bool Mistake → Said → ℕ → List (List ℕ) → Result (Planned × LinesLeft) Problem → Type 0
GoesOn more (Ok false) now taken below reading = more
GoesOn more (Ok true) now taken below reading = reading ≡ planned (plan_of now) taken below
GoesOn more (Err mistake) now taken below reading = reading ≡ Err (at taken mistake)

-- the plan that lines say, below so many with this heading, and what is left below the line that begins the map
abbrev pub ReadsPlan : Said → ℕ → List (List ℕ) → Result (Planned × LinesLeft) Problem → Type 0
ReadsPlan old taken [] reading = reading ≡ Err (at (number_after taken) NoMap)
ReadsPlan old taken (line ∷ below) reading =
    (said : Result Bool Mistake) × (now : Said) × TakesHeading old line said now
    × GoesOn (ReadsPlan now (taken + 1) below reading) said now (taken + 1) below reading

-- what is read next, unless there was a problem
abbrev pub and_then : {T U : Type 0} → (T → Result U Problem) → Result T Problem → Result U Problem
and_then next (Ok x) = next x
and_then next (Err problem) = Err problem

-- an answer is a reading, which is made of its value; but where there is no memory
abbrev pub IsReading : {T R : Type 0} → (Result R Problem → Type 0) → (T → R) → Result T Problem → Type 0
IsReading Says of result =
    MatchResult result (λ x. Says (Ok (of x))) (λ problem. (problem.mistake ≡ Memory) ⊎ Says (Err problem))

-- the plan that these lines say, with what is left below it
abbrev pub PlanFrom : LinesLeft → Result (Planned × LinesLeft) Problem → Type 0
PlanFrom left reading = ReadsPlan no_heading left.taken left.lines reading

-- the rows from `found` on: these bytes with theirs behind them, and what is left below the last
abbrev pub rows_read : Layout → ℕ → List ℕ → ℕ → List (List ℕ) → Result (List ℕ × LinesLeft) Problem
rows_read layout found bytes taken [] =
    if nat_lt found layout.rows then Err (at (number_after taken) (Short layout.rows found)) else Ok (bytes, record { taken = taken; lines = [] })
rows_read layout found bytes taken (line ∷ below) =
    if nat_lt found layout.rows
    then and_then (λ longer. rows_read layout (found + 1) longer (taken + 1) below) (result_map_both (λ bytes. bytes) (at (taken + 1)) (row_read bytes layout.columns (trim_end line)))
    else Ok (bytes, record { taken = taken; lines = line ∷ below })

-- the bytes of the rows that these lines are, with what is left below them
abbrev pub RowsFrom : Layout → LinesLeft → Result (List ℕ × LinesLeft) Problem → Type 0
RowsFrom layout left reading = rows_read layout 0 [] left.taken left.lines ≡ reading

-- below the last row each line is blank
abbrev pub end_read : ℕ → ℕ → List (List ℕ) → Result (Unit {0}) Problem
end_read rows taken [] = Ok tt
end_read rows taken (line ∷ below) = if length (trim_end line) == 0 then end_read rows (taken + 1) below else Err (at (taken + 1) (Long rows))

-- the bytes of a map of this layout, with nothing below it
abbrev pub map_read : Layout → LinesLeft → Result (List ℕ) Problem
map_read layout left =
    and_then (λ (bytes, below). and_then (λ _. Ok bytes) (end_read layout.rows below.taken below.lines)) (rows_read layout 0 [] left.taken left.lines)

-- what a text says, or the first problem with it
abbrev pub Reads : List ℕ → Result (Planned × List ℕ) Problem → Type 0
Reads text reading =
    (head : Result (Planned × LinesLeft) Problem) × ReadsPlan no_heading 0 (lines text) head
    × (reading ≡ and_then (λ (plan, below). and_then (λ bytes. Ok (plan, bytes)) (map_read plan.layout below)) head)

-- it says one thing
pub record HasOneReading (text : List ℕ) : Type 0 where
  pub only : (a b : Result (Planned × List ℕ) Problem) → Reads text a → Reads text b → a ≡ b
