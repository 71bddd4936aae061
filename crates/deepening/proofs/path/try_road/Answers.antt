use Rattle.std.proofs.Common.{◌<◌, length, arith}
use Rattle.graph.specs.Means.{means}
use Rattle.deepening.proofs.Steps.{tried_is}
use Rattle.deepening.proofs.path.try_road.Goals as goal

pub returns-clause-answer : goal.returns-clause-answer
returns-clause-answer g c =
    let l : length c.args.register.now.listed < c.args.register.now.room = grind arith in
    tried_is g.N.NodeKind.key g.C.CostKind.weight g.C.CostKind.kind (means g.G.Graph c.args.graph.now) (g.G.Graph.guesses c.args.graph.now) c.args.register.now c.args.tries.now c.args.end c.requires.end c.args.road c.in-Some.sum c.args.pass.now c.keep.new.self _ c.requires.paired (rw c.in-Some.is at c.sum.ensures) l c.keep.ensures.lefts c.arrive.ensures.answer
