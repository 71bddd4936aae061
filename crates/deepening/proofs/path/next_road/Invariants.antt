use Rattle.std.proofs.Common.{◌≡◌, ◌-◌, None}
use Rattle.graph.specs.Means.{means}
use Rattle.search.specs.Scan.{scan}
use Rattle.deepening.specs.Steps.{tried_last}
use Rattle.deepening.specs.Views.{path_of, best_of, left_of}
use Rattle.deepening.proofs.path.next_road.Given as goal

-- the roads from this rank on come to what all of them come to
abbrev pub invariant-loop-rank : goal.invariant-loop-rank
invariant-loop-rank g l =
    let key = g.N.NodeKind.key in
    let w = g.C.CostKind.weight in
    let K = g.C.CostKind.kind in
    let M = means g.G.Graph l.graph in
    let h = g.G.Graph.guesses l.graph in
    let p = path_of key w l.register.listed l.end in
    let o = tried_last K M h (key l.end.node) (left_of l.end.tried) in
    scan K M h p o (l.count - l.rank) l.rank (best_of key w l.best) ≡ scan K M h p o l.count 0 None
