use Rattle.graph.specs.Means.{means}
use Rattle.std.proofs.Common.{◌≡◌, ◌-◌, get_or}
use Rattle.search.specs.Rows.{no_row}
use Rattle.search.specs.Roads.{along}
use Rattle.planner.specs.Standing.{After, IsServed, capacity_of, state_of}
use Rattle.planner.proofs.roads.follow.Given as goal

-- the roads from this rank on come to what all of them come to
abbrev pub invariant-loop-rank : goal.invariant-loop-rank
invariant-loop-rank g l =
    let K = g.C.CostKind.kind in
    let M = means g.G.Graph l.graph in
    let stands = g.W.Waits.stands in
    let f = l.initial.found in
    let r = get_or f.rows l.row no_row in
    let go = along K M (capacity_of f) f.keeps (g.W.Waits.enters l.graph) l.row r in
    IsServed g.W.Waits.rows g.W.Waits.Below l.found l.waits
    × After f l.found
    × (go (l.count - l.rank) l.rank (state_of l.found (stands l.waits)) ≡ go l.count 0 (state_of f (stands l.initial.waits)))
