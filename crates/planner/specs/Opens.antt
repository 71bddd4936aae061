-- The open roads of the code, and those of the definition.
use Rattle.std.specs.Prelude.{ℕ, Ok, Err, Result}
use Rattle.search.specs.Roads.{Open}
use Rattle.planner.specs.declared.open.Open.{Open as Opened}

abbrev pub open_of : {N C : Type 0} → (N → ℕ) → (C → ℕ) → Opened N C → Open
open_of key weight road = record { row = road.row; rank = road.rank; key = key road.node; sum = weight road.sum }

-- what a step left, if it was not refused
abbrev pub left_by : {W U E : Type 0} → Result U E → W → Result W E
left_by (Ok u) w = Ok w
left_by (Err e) w = Err e
