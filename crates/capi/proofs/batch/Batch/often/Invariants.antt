use Rattle.std.proofs.Common.{length}
use Rattle.capi.specs.Tells.{Seeks}
use Rattle.capi.proofs.batch.Batch.often.Given as goal

abbrev pub invariant-loop-turn : goal.invariant-loop-turn
invariant-loop-turn l =
    Seeks l.self.method l.self.chart.bytes.now (length l.initial.nodes) l.initial.planner l._turn l.planner
