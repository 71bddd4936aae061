-- A line that comes off is one of the heading, and the lines below it say the plan.
use Rattle.map.proofs.ReadingLemmas.{heading_line, was_taken}
use Rattle.map.proofs.reader.read_plan.Goals as goal

pub loop-number-preserved : goal.loop-number-preserved
loop-number-preserved c = λ reading h.
    let step = c.in-Some.ensures.steps in
    let said = was_taken _ _ _ _ _ c.take_line.ensures c.in-Ok-false.is in
    c.loop-number.invariant reading
    (heading_line _ _ _ _ _ _ reading step.0 (rw c.in-Ok-false.field-0-test at said) (rw (← step.1) h))
