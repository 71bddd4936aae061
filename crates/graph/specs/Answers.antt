-- What an answer about a road stands for.
use Rattle.std.specs.Prelude.{ℕ, Some, None, Ok, Err, Option, Result}
use Rattle.graph.specs.Meaning.{Road, opened, closed, faulty}
use Rattle.graph.specs.declared.fault.Fault.{Fault}

abbrev pub road_of : {N C : Type 0} → (N → ℕ) → (C → ℕ) → Result (Option (N × C)) Fault → Road
road_of key weight (Ok (Some p)) = opened (key p.0) (weight p.1)
road_of key weight (Ok None) = closed
road_of key weight (Err f) = faulty f
