use Rattle.graph.specs.Means.{means}
use Rattle.search.specs.Ends.{Turned, Ends}
use Rattle.search.specs.Outcome.{Outcome}
use Rattle.search.specs.Roads.{State}
use Rattle.search.specs.Fringe.{Fringe, fringe, begin}
use Rattle.search.proofs.FringeEnds.{Above, fringe_potential}
use Rattle.search.proofs.Rooted.{RootedFringe}
use Rattle.planner.specs.Standing.{After, capacity_of, state_of}
use Rattle.planner.specs.TwoQueues.{fringe_of, AreQueuesOf}
use Rattle.planner.proofs.passes.run.Given as goal

-- the rows are a tree, and the least sum is above the limit; and what the search comes to from here on, it comes to from its
-- beginning
abbrev pub invariant-loop-end : goal.invariant-loop-end
invariant-loop-end g l =
    let K = g.C.CostKind.kind in
    let M = means g.G.Graph l.graph in
    let h = g.G.Graph.guesses l.graph in
    let f = l.initial.found in
    let cap = capacity_of f in
    let start = g.N.NodeKind.key l.fn.start in
    let s = state_of l.found (fringe_of g.C.CostKind.weight l.waits) in
    let turn : State Fringe → Turned (State Fringe) = λ s. fringe K M h cap s.waits.now s in
    AreQueuesOf l.found l.waits
    × After f l.found
    × RootedFringe M start s
    × Above K M h cap g.met.C.CostKind.bound s.waits
    × ((o : Outcome) → Ends turn s o → Ends turn (begin K M h cap start) o)

abbrev pub decreases-loop-end : goal.decreases-loop-end
decreases-loop-end g l =
    let f = l.initial.found in
    fringe_potential g.C.CostKind.kind (means g.G.Graph l.graph) (g.G.Graph.guesses l.graph) (capacity_of f) g.met.C.CostKind.bound (state_of l.found (fringe_of g.C.CostKind.weight l.waits))
