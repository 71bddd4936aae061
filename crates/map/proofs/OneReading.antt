-- A text has one reading.
use Rattle.std.proofs.Common.{◌≡◌, ◌≢◌, ◌<◌, ◌≤◌, ◌⊎◌, ℕ, ◌+◌, Bool, true, false, cond, List, [], ◌∷◌, refl, sym, ◌∙◌, ap, subst, arith, Some, None, Option, Result, Ok, Err, MatchResult, inl, inr}
use native.Mathlib.Bridge.{le_prop}
use Rattle.std.specs.Prelude.{codes, nat_eq}
use Rattle.std.specs.Cmp.Lexicographic.{pointwise, bytes_decides}
use Rattle.std.proofs.lemmas.Bool.{cases_lt}
use Rattle.kinds.specs.declared.cell.Cell.{Cell}
use Rattle.map.specs.declared.drawing.Charge.{Charge}
use Rattle.map.specs.declared.header.Header.{Header}
use Rattle.map.specs.declared.header.Header.TheVariants.{Blank, Field, Start, Target, Fence, Toll, Map}
use Rattle.map.specs.declared.mistake.Mistake.{Mistake}
use Rattle.map.specs.declared.mistake.Mistake.TheVariants as mistake
use Rattle.map.specs.declared.mistake.Problem.{Problem}
use Rattle.map.specs.Plans.{Planned, Said}
use Rattle.map.specs.Words.{words}
use Rattle.map.specs.Headers.{size_of, cell_of, zones_of, toll_of, IsUnknown, SaysHeader, LacksHeader}
use Rattle.map.specs.Headings.{plan_of, Keeps, TakesHeader}
use Rattle.map.specs.Lines.{LinesLeft}
use Rattle.std.specs.Str.Lines.{lines}
use Rattle.map.specs.Readings.{planned, no_heading, TakesHeading, GoesOn, ReadsPlan, map_read, and_then, HasOneReading}

-- a number is within a bound in one way, so cells and charges are told by their numbers
same_cell : (c : Cell) (p : c.column ≤ 65535) → record { column = c.column; row = c.row; narrow = p } ≡ c
same_cell c p = ap {A = c.column ≤ 65535} {B = Cell} (λ q. record { column = c.column; row = c.row; narrow = q }) (le_prop p c.narrow)

same_charge : (c : Charge) (p : c.cost.millis ≤ 4294967295) → record { cost = record { millis = c.cost.millis; small = p }; zones = c.zones } ≡ c
same_charge c p = ap {A = c.cost.millis ≤ 4294967295} {B = Charge} (λ q. record { cost = record { millis = c.cost.millis; small = q }; zones = c.zones }) (le_prop p c.cost.small)

-- what words say, by their first
abbrev rest_said : {T : Type 0} → (T → Result Header Mistake) → Mistake → Option T → Result Header Mistake
rest_said header mistake None = Err mistake
rest_said header mistake (Some x) = header x

abbrev cell_within : (Cell → Header) → (place : ℕ × ℕ) → (65535 < place.0) ⊎ (place.0 ≤ 65535) → Result Header Mistake
cell_within header place (inl _) = Err mistake.Keyword
cell_within header place (inr p) = Ok (header (record { column = place.0; row = place.1; narrow = p }))

abbrev cell_said : (Cell → Header) → ℕ × ℕ → Result Header Mistake
cell_said header place = cell_within header place (cases_lt 65535 place.0)

abbrev toll_within : (toll : ℕ × List Bool) → (4294967295 < toll.0) ⊎ (toll.0 ≤ 4294967295) → Result Header Mistake
toll_within toll (inl _) = Err mistake.Keyword
toll_within toll (inr p) = Ok (Toll (record { cost = record { millis = toll.0; small = p }; zones = toll.1 }))

abbrev toll_said : ℕ × List Bool → Result Header Mistake
toll_said toll = toll_within toll (cases_lt 4294967295 toll.0)

abbrev map_said : List (List ℕ) → Result Header Mistake
map_said [] = Ok Map
map_said (word ∷ more) = Err mistake.Map

abbrev is : List ℕ → List ℕ → Bool
is word name = pointwise nat_eq word name

abbrev said : List (List ℕ) → Result Header Mistake
said [] = Ok Blank
said (word ∷ more) =
    cond (is word (codes "field")) (rest_said (λ size. Ok (Field size)) mistake.Size (size_of more))
    (cond (is word (codes "start")) (rest_said (cell_said Start) mistake.Start (cell_of more))
    (cond (is word (codes "target")) (rest_said (cell_said Target) mistake.Target (cell_of more))
    (cond (is word (codes "fence")) (rest_said (λ zones. Ok (Fence zones)) mistake.Fence (zones_of more))
    (cond (is word (codes "toll")) (rest_said toll_said mistake.Toll (toll_of more))
    (cond (is word (codes "map")) (map_said more) (Err mistake.Keyword))))))

cell_fits : (header : Cell → Header) (c : Cell) (w : (65535 < c.column) ⊎ (c.column ≤ 65535)) → cell_within header (c.column, c.row) w ≡ Ok (header c)
cell_fits header c (inl l) = let narrow : c.column ≤ 65535 = c.narrow in absurd (omega arith)
cell_fits header c (inr p) = ap (λ d. Ok (header d)) (same_cell c p)

toll_fits : (c : Charge) (w : (4294967295 < c.cost.millis) ⊎ (c.cost.millis ≤ 4294967295)) → toll_within (c.cost.millis, c.zones) w ≡ Ok (Toll c)
toll_fits c (inl l) = let small : c.cost.millis ≤ 4294967295 = c.cost.small in absurd (omega arith)
toll_fits c (inr p) = ap (λ d. Ok (Toll d)) (same_charge c p)

says : (ws : List (List ℕ)) (header : Header) → SaysHeader ws header → said ws ≡ Ok header
says ws Blank h = ap said h
says ws (Field size) h = ap said h.1 ∙ ap (rest_said (λ size. Ok (Field size)) mistake.Size) h.2
says ws (Start cell) h = ap said h.1 ∙ ap (rest_said (cell_said Start) mistake.Start) h.2 ∙ cell_fits Start cell (cases_lt 65535 cell.column)
says ws (Target cell) h = ap said h.1 ∙ ap (rest_said (cell_said Target) mistake.Target) h.2 ∙ cell_fits Target cell (cases_lt 65535 cell.column)
says ws (Fence zones) h = ap said h.1 ∙ ap (rest_said (λ zones. Ok (Fence zones)) mistake.Fence) h.2
says ws (Toll charge) h = ap said h.1 ∙ ap (rest_said toll_said mistake.Toll) h.2 ∙ toll_fits charge (cases_lt 4294967295 charge.cost.millis)
says ws Map h = ap said h

other : (word name : List ℕ) (b : Bool) → b ≡ is word name → word ≢ name → b ≡ false
other word name false e h = refl
other word name true e h = absurd (h ((bytes_decides word name).0 (sym e)))

unknown : (word : List ℕ) (more : List (List ℕ)) → IsUnknown word → said (word ∷ more) ≡ Err mistake.Keyword
unknown word more h =
    let field : is word (codes "field") ≡ false = other word _ _ refl h.0 in
    let start : is word (codes "start") ≡ false = other word _ _ refl h.1 in
    let target : is word (codes "target") ≡ false = other word _ _ refl h.2 in
    let fence : is word (codes "fence") ≡ false = other word _ _ refl h.3 in
    let toll : is word (codes "toll") ≡ false = other word _ _ refl h.4 in
    let map : is word (codes "map") ≡ false = other word _ _ refl h.5 in
    grind (arith, field, start, target, fence, toll, map)

more_said : (more : List (List ℕ)) → more ≢ [] → map_said more ≡ Err mistake.Map
more_said [] h = absurd (h refl)
more_said (word ∷ more) h = refl

lacks : (ws : List (List ℕ)) (m : Mistake) → LacksHeader ws m → said ws ≡ Err m
lacks ws mistake.Keyword h = ap said h.1.1 ∙ unknown h.0 h.1.0 h.1.2
lacks ws mistake.Size h = ap said h.1 ∙ ap (rest_said (λ size. Ok (Field size)) mistake.Size) h.2
lacks ws mistake.Start h = ap said h.1 ∙ ap (rest_said (cell_said Start) mistake.Start) h.2
lacks ws mistake.Target h = ap said h.1 ∙ ap (rest_said (cell_said Target) mistake.Target) h.2
lacks ws mistake.Fence h = ap said h.1 ∙ ap (rest_said (λ zones. Ok (Fence zones)) mistake.Fence) h.2
lacks ws mistake.Toll h = ap said h.1 ∙ ap (rest_said toll_said mistake.Toll) h.2
lacks ws mistake.Map h = ap said h.1 ∙ more_said h.0 h.2
lacks ws _ h = absurd h

-- a header makes one thing of a heading
keeps_one : {T : Type 0} (place : Option T) (kept old : Said) (r s : Result Bool Mistake) (now next : Said) → Keeps place kept old r now → Keeps place kept old s next → (r ≡ s) × (now ≡ next)
keeps_one None kept old r s now next h k = (h.0 ∙ sym k.0, h.1 ∙ sym k.1)
keeps_one (Some x) kept old r s now next h k = (h.0 ∙ sym k.0, h.1 ∙ sym k.1)

header_one : (old : Said) (header : Header) (r s : Result Bool Mistake) (now next : Said) → TakesHeader old header r now → TakesHeader old header s next → (r ≡ s) × (now ≡ next)
header_one old Blank r s now next h k = (h.0 ∙ sym k.0, h.1 ∙ sym k.1)
header_one old (Field size) r s now next h k = keeps_one old.size _ old r s now next h k
header_one old (Start cell) r s now next h k = keeps_one old.start _ old r s now next h k
header_one old (Target cell) r s now next h k = keeps_one old.target _ old r s now next h k
header_one old (Fence zones) r s now next h k = (h.0 ∙ sym k.0, h.1 ∙ sym k.1)
header_one old (Toll charge) r s now next h k = (h.0 ∙ sym k.0, h.1 ∙ sym k.1)
header_one old Map r s now next h k = (h.0 ∙ sym k.0, h.1 ∙ sym k.1)

-- and so does a line, where it goes on
abbrev by_said : Said → Result Header Mistake → Result Bool Mistake → Said → Type 0
by_said old (Ok header) r now = TakesHeader old header r now
by_said old (Err mistake) r now = r ≡ Err mistake

line_said : (old : Said) (line : List ℕ) (r : Result Bool Mistake) (now : Said) → TakesHeading old line r now → by_said old (said (words line)) r now
line_said old line r now (inl h) = rw (says (words line) h.0 h.1) h.2
line_said old line r now (inr h) = rw (lacks (words line) h.0 h.1) h.2

by_one : (old : Said) (what : Result Header Mistake) (r s : Result Bool Mistake) (now next : Said) → by_said old what r now → by_said old what s next → (r ≡ s) × MatchResult r (λ _. now ≡ next) (λ _. Unit {0})
by_one old (Ok header) (Ok x) s now next h k = header_one old header (Ok x) s now next h k
by_one old (Ok header) (Err x) s now next h k = ((header_one old header (Err x) s now next h k).0, tt)
by_one old (Err mistake) (Ok x) s now next h k = absurd (cc)
by_one old (Err mistake) (Err x) s now next h k = (h ∙ sym k, tt)

-- a plan
goes_one : (taken : ℕ) (below : List (List ℕ)) → ((heading : Said) (a b : Result (Planned × LinesLeft) Problem) → ReadsPlan heading taken below a → ReadsPlan heading taken below b → a ≡ b)
    → (r : Result Bool Mistake) (now next : Said) (a b : Result (Planned × LinesLeft) Problem) → MatchResult r (λ _. now ≡ next) (λ _. Unit {0})
    → GoesOn (ReadsPlan now taken below a) r now taken below a → GoesOn (ReadsPlan next taken below b) r next taken below b → a ≡ b
goes_one taken below more (Ok false) now next a b e h k = more next a b (subst (λ heading. ReadsPlan heading taken below a) e h) k
goes_one taken below more (Ok true) now next a b e h k = h ∙ ap (λ heading. planned (plan_of heading) taken below) e ∙ sym k
goes_one taken below more (Err mistake) now next a b e h k = h ∙ sym k

plan_one : (old : Said) (taken : ℕ) (left : List (List ℕ)) (a b : Result (Planned × LinesLeft) Problem) → ReadsPlan old taken left a → ReadsPlan old taken left b → a ≡ b
plan_one old taken [] a b h k = h ∙ sym k
plan_one old taken (line ∷ below) a b h k =
    let same = by_one old (said (words line)) h.0 k.0 h.1 k.1 (line_said old line h.0 h.1 h.2) (line_said old line k.0 k.1 k.2) in
    goes_one (taken + 1) below (λ heading c d. plan_one heading (taken + 1) below c d) h.0 h.1 k.1 a b same.1 h.3 (subst (λ r. GoesOn (ReadsPlan k.1 (taken + 1) below b) r k.1 (taken + 1) below b) (sym same.0) k.3)

pub one_reading : (text : List ℕ) → HasOneReading text
one_reading text = record { only = λ a b h k. h.2 ∙ ap (and_then (λ (plan, below). and_then (λ bytes. Ok (plan, bytes)) (map_read plan.layout below))) (plan_one no_heading 0 (lines text) h.0 k.0 h.1 k.1) ∙ sym k.2 }
