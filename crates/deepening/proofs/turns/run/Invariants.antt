use Rattle.std.proofs.Common.{◌≡◌}
use Rattle.graph.specs.Means.{means}
use Rattle.search.specs.Outcome.{Outcome}
use Rattle.search.specs.Ends.{Ends}
use Rattle.search.proofs.Rowed.{rows_left}
use Rattle.deepening.specs.Steps.{no_room, rows_only, turning}
use Rattle.deepening.specs.Views.{state_of, IsPaired}
use Rattle.deepening.proofs.turns.run.Given as goal

-- what the search comes to from here on, it comes to from its beginning
abbrev pub invariant-loop-end : goal.invariant-loop-end
invariant-loop-end g l =
    let key = g.N.NodeKind.key in
    let w = g.C.CostKind.weight in
    let go = turning g.C.CostKind.kind (means g.G.Graph l.graph) (g.G.Graph.guesses l.graph) l.initial.register.room (key l.start) in
    IsPaired l.register l.tries × (l.register.room ≡ l.initial.register.room) × (l.tries.room ≡ l.initial.tries.room) × ((o : Outcome) → Ends go (state_of key w l.register l.tries l.pass) o → Ends go (state_of key w l.initial.register l.initial.tries l.initial.pass) o)

abbrev pub decreases-loop-end : goal.decreases-loop-end
decreases-loop-end g l = rows_left g.C.CostKind.kind (means g.G.Graph l.graph) (g.G.Graph.guesses l.graph) (rows_only l.register.room) (g.N.NodeKind.key l.start) g.met.C.CostKind.bound no_room (state_of g.N.NodeKind.key g.C.CostKind.weight l.register l.tries l.pass)
