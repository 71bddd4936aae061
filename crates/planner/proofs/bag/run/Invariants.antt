use Rattle.std.proofs.Common.{◌≡◌}
use Rattle.graph.specs.Means.{means}
use Rattle.search.specs.Ends.{Turned, Ends}
use Rattle.search.specs.Outcome.{Outcome}
use Rattle.search.specs.Queue.{first_out}
use Rattle.search.specs.Bag.{Bag, bag, begin}
use Rattle.search.proofs.HeapEnds.{heap_potential}
use Rattle.search.proofs.Rooted.{RootedBag}
use Rattle.planner.specs.Standing.{After, capacity_of, state_of}
use Rattle.planner.specs.Entries.{entries_of, IsHeapOf}
use Rattle.planner.specs.Bags.{bag_of}
use Rattle.planner.proofs.bag.run.Given as goal

-- the rows are a tree, and the sinks are rows; and what the search comes to from here on, it comes to from its beginning
abbrev pub invariant-loop-cost : goal.invariant-loop-cost
invariant-loop-cost g l =
    let M = means g.G.Graph l.graph.below.now in
    let h = g.G.Graph.guesses l.graph.below.now in
    let f = l.initial.found in
    let start = g.N.NodeKind.key l.fn.start in
    let b = bag_of g.C.CostKind.weight l.found l.heap l.sinks.sinks l.cost in
    let turn : Bag → Turned Bag = λ b. bag g.C.CostKind.kind M h (capacity_of f) (first_out b.search.waits) b in
    IsHeapOf l.found l.heap
    × (l.sinks.places ≡ l.initial.sinks.places)
    × After f l.found
    × RootedBag M start b
    × ((o : Outcome) → Ends turn b o → Ends turn (begin start) o)

abbrev pub decreases-loop-cost : goal.decreases-loop-cost
decreases-loop-cost g l = heap_potential g.C.CostKind.kind (capacity_of l.initial.found) (state_of l.found (entries_of g.C.CostKind.weight l.heap))
