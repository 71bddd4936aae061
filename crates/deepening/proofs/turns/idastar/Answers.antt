use Rattle.std.proofs.Common.{◌≡◌, true}
use Rattle.graph.specs.Means.{means}
use Rattle.search.proofs.Rowed.{rows_deepen}
use Rattle.deepening.specs.Steps.{no_room, rows_only}
use Rattle.deepening.proofs.turns.idastar.Goals as goal

pub returns-clause-answer : goal.returns-clause-answer
returns-clause-answer g c =
    let K = g.C.CostKind.kind in
    let M = means g.G.Graph c.args.graph.now in
    let h = g.G.Graph.guesses c.args.graph.now in
    let e = rw (c.clear.ensures.empty, c.clear.ensures.room, c.zero.ensures, c.guess.ensures) at c.run.ensures.answer in
    let t : true ≡ M.held (g.N.NodeKind.key c.args.start) = c.if-not-held.ensures in
    rw (← t) (rows_deepen K M h (rows_only c.args.register.now.room) (g.N.NodeKind.key c.args.start) g.met.C.CostKind.bound no_room e)
