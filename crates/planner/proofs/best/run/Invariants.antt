use Rattle.graph.specs.Means.{means}
use Rattle.std.specs.Prelude.{List}
use Rattle.search.specs.Ends.{Turned, Ends}
use Rattle.search.specs.Outcome.{Outcome}
use Rattle.search.specs.Queue.{Entry, first_out}
use Rattle.search.specs.Roads.{State, one}
use Rattle.search.specs.Best.{best, begin}
use Rattle.search.proofs.HeapEnds.{heap_potential}
use Rattle.search.proofs.Rooted.{Rooted}
use Rattle.planner.specs.Standing.{After, capacity_of, state_of}
use Rattle.planner.specs.Entries.{entries_of, IsHeapOf}
use Rattle.planner.proofs.best.run.Given as goal

-- the rows are a tree; and what the search comes to from here on, it comes to from its beginning
abbrev pub invariant-loop-end : goal.invariant-loop-end
invariant-loop-end g l =
    let M = means g.G.Graph l.graph in
    let f = l.initial.found in
    let start = g.N.NodeKind.key l.fn.start in
    let s = state_of l.found (entries_of g.C.CostKind.weight l.heap) in
    let turn : State (List Entry) → Turned (State (List Entry)) = λ s. best g.C.CostKind.kind M (g.G.Estimates.estimates l.graph) (capacity_of f) (first_out s.waits) s in
    IsHeapOf l.found l.heap
    × After f l.found
    × Rooted one M start s
    × ((o : Outcome) → Ends turn s o → Ends turn (begin start) o)

abbrev pub decreases-loop-end : goal.decreases-loop-end
decreases-loop-end g l = heap_potential g.C.CostKind.kind (capacity_of l.initial.found) (state_of l.found (entries_of g.C.CostKind.weight l.heap))
