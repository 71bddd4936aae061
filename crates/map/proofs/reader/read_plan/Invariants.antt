-- Whatever the lines that are left say after this heading, all lines say.
use Rattle.std.proofs.Common.{length, Result}
use Rattle.map.specs.declared.mistake.Problem.{Problem}
use Rattle.map.specs.Plans.{Planned}
use Rattle.map.specs.Lines.{LinesLeft}
use Rattle.map.specs.Readings.{no_heading, ReadsPlan}
use Rattle.map.proofs.reader.read_plan.Given as goal

abbrev pub invariant-loop-number : goal.invariant-loop-number
invariant-loop-number l =
    (reading : Result (Planned × LinesLeft) Problem) → ReadsPlan l.heading l.lines.taken l.lines.lines reading
    → ReadsPlan no_heading l.fn.lines.taken l.fn.lines.lines reading

abbrev pub decreases-loop-number : goal.decreases-loop-number
decreases-loop-number l = length l.lines.lines
