-- What the check answers is so.
use Rattle.std.specs.Prelude.{◌≡◌, ℕ, List, Result}
use Rattle.chart.specs.declared.refusal.ChartRefusal.{ChartRefusal}
use Rattle.chart.specs.Checked.{checked}
use Rattle.chart.specs.Verdict.{Says}
use Rattle.chart.specs.Lawful.{says_checked}

pub says : (bytes : List ℕ) (answer : Result (Unit {0}) ChartRefusal) → checked bytes ≡ answer → Says bytes answer
says bytes answer e = rw (← e) (says_checked bytes)
