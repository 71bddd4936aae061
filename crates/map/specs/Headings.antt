-- What the lines before the map add up to.
use Rattle.std.specs.Prelude.{◌≡◌, Bool, true, false, [], ◌∷◌, ◌++◌, Option, Some, MatchOption, option_and_then, Result, Ok, Err}
use Rattle.graph.specs.declared.layers.Layer.TheVariants as layer
use Rattle.map.specs.declared.header.Header.{Header}
use Rattle.map.specs.declared.header.Header.TheVariants.{Blank, Field, Start, Target, Fence, Toll, Map}
use Rattle.map.specs.declared.mistake.Mistake.{Mistake}
use Rattle.map.specs.declared.mistake.Mistake.TheVariants.{Twice}
use Rattle.map.specs.Plans.{Planned, Said}

-- the plan, if the size, the target and the start are given
abbrev pub plan_of : Said → Option Planned
plan_of heading =
    option_and_then (λ size. option_and_then (λ target. option_and_then (λ start. Some (record {
      layout = record { columns = size.columns; rows = size.rows; step = size.step; target = target };
      start = start;
      layers = heading.layers;
    })) heading.start) heading.target) heading.size

-- a value is kept where nothing was, and else the line is the second of its word
abbrev pub KeepsFirst : {T : Type 0} → Option T → T → Result (Unit {0}) Mistake → Option T → Type 0
KeepsFirst old value result now =
    MatchOption old ((result ≡ Ok tt) × (now ≡ Some value)) (λ _. (result ≡ Err Twice) × (now ≡ old))

-- the same of what a line says
abbrev pub Keeps : {T : Type 0} → Option T → Said → Said → Result Bool Mistake → Said → Type 0
Keeps place kept old result now = MatchOption place ((result ≡ Ok false) × (now ≡ kept)) (λ _. (result ≡ Err Twice) × (now ≡ old))

-- what a line makes of the lines before it, and whether the map begins below it. Each fence and each toll lies over those before it
abbrev pub TakesHeader : Said → Header → Result Bool Mistake → Said → Type 0
TakesHeader old Blank result now = (result ≡ Ok false) × (now ≡ old)
TakesHeader old (Field size) result now = Keeps old.size (record old { size = Some size }) old result now
TakesHeader old (Start cell) result now = Keeps old.start (record old { start = Some cell }) old result now
TakesHeader old (Target cell) result now = Keeps old.target (record old { target = Some cell }) old result now
TakesHeader old (Fence zones) result now = (result ≡ Ok false) × (now ≡ record old { layers = old.layers ++ layer.Fence zones ∷ [] })
TakesHeader old (Toll charge) result now = (result ≡ Ok false) × (now ≡ record old { layers = old.layers ++ layer.Toll charge.cost charge.zones ∷ [] })
TakesHeader old Map result now = (result ≡ Ok true) × (now ≡ old)

-- a fence or a toll is laid, for which there may be no memory
abbrev pub is_laid : Header → Bool
is_laid Blank = false
is_laid (Field size) = false
is_laid (Start cell) = false
is_laid (Target cell) = false
is_laid (Fence zones) = true
is_laid (Toll charge) = true
is_laid Map = false
