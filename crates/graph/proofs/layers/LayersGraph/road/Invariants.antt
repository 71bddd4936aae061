-- The road past the layers so far.
use Rattle.std.proofs.Common.{◌≡◌, fold, take}
use Rattle.graph.specs.Means.{means}
use Rattle.graph.specs.Answers.{road_of}
use Rattle.graph.specs.Layers.{past_road}
use Rattle.graph.proofs.layers.LayersGraph.road.Given as goal

abbrev pub invariant-loop-layer : goal.invariant-loop-layer
invariant-loop-layer g l =
    let M = means g.G.Graph l.self.bottom in
    road_of g.G.Node.NodeKind.key g.C.CostKind.weight l.road
    ≡ fold (past_road g.C.CostKind.kind g.C.CostKind.weight M l.rank) (M.road (g.G.Node.NodeKind.key l.node) l.rank) (take l.layer-index l.self.layers.now)
