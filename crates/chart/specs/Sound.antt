-- Whether bytes are a chart.
use Rattle.std.specs.Prelude.{ℕ, Bool, true, false, List, Ok, Err, Result}
use Rattle.chart.specs.declared.refusal.ChartRefusal.{ChartRefusal}
use Rattle.chart.specs.Checked.{checked}

-- whether an answer is no refusal
abbrev pub passed : Result (Unit {0}) ChartRefusal → Bool
passed (Ok _) = true
passed (Err _) = false

-- whether the check passes the bytes
abbrev pub sound : List ℕ → Bool
sound bytes = passed (checked bytes)
