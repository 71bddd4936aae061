use Rattle.std.proofs.Common.{◌≡◌, refl, sym, arith}
use Rattle.std.proofs.lemmas.Grind.{common_steps}
use Rattle.std.specs.Option.{option_map}
use Rattle.graph.specs.Means.{means}
use Rattle.search.specs.Ends.{Ends, more, done}
use Rattle.search.specs.Outcome.{stopped}
use Rattle.search.specs.Queue.{first_out}
use Rattle.search.specs.Bag.{Bag, bag, ended}
use Rattle.search.proofs.HeapEnds.{bag_falls}
use Rattle.search.proofs.Rooted.{bag_begins, bag_keeps}
use Rattle.planner.specs.Standing.{capacity_of}
use Rattle.planner.specs.Bags.{bag_of, bag_end}
use Rattle.planner.proofs.Trees.{bag_ends_well}
use Rattle.planner.proofs.bag.run.Goals as goal

pub loop-cost-init : goal.loop-cost-init
loop-cost-init g c = (
  c.requires.served,
  refl,
  grind arith,
  rw c.requires.begun (bag_begins (means g.G.Graph c.args.graph.now.below.now) (g.N.NodeKind.key c.args.start) c.requires.held),
  λ o x. rw c.requires.begun at x,
)

pub loop-cost-preserved : goal.loop-cost-preserved
loop-cost-preserved g c =
    let K = g.C.CostKind.kind in
    let M = means g.G.Graph c.args.graph.now.below.now in
    let h = g.G.Graph.guesses c.args.graph.now.below.now in
    let cap = capacity_of c.args.found.now in
    let weight = g.C.CostKind.weight in
    let inv = c.loop-cost.invariant in
    let b : Bag = bag_of weight c.loop-cost.found c.loop-cost.heap c.loop-cost.sinks.sinks c.loop-cost.cost in
    let t : Bag = bag_of weight c.turn.new.found c.turn.new.heap c.turn.new.sinks.sinks c.in-Continue.latest in
    let e : more t ≡ bag K M h cap (first_out b.search.waits) b = grind arith in (
      c.turn.ensures.served,
      grind arith,
      grind arith,
      bag_keeps K M cap (g.G.Graph.lawful c.args.graph.now.below.now) (g.N.NodeKind.key c.args.start) b t inv.3 e,
      λ o x. inv.4 o (Ends.next (sym e) x),
    )

pub loop-cost-smaller : goal.loop-cost-smaller
loop-cost-smaller g c =
    let K = g.C.CostKind.kind in
    let M = means g.G.Graph c.args.graph.now.below.now in
    let h = g.G.Graph.guesses c.args.graph.now.below.now in
    let cap = capacity_of c.args.found.now in
    let weight = g.C.CostKind.weight in
    let inv = c.loop-cost.invariant in
    let b : Bag = bag_of weight c.loop-cost.found c.loop-cost.heap c.loop-cost.sinks.sinks c.loop-cost.cost in
    let t : Bag = bag_of weight c.turn.new.found c.turn.new.heap c.turn.new.sinks.sinks c.in-Continue.latest in
    let e : more t ≡ bag K M h cap (first_out b.search.waits) b = grind arith in
    bag_falls K M h cap g.met.C.CostKind.bound b t e

pub returns-in-Break-clause-well : goal.returns-in-Break-clause-well
returns-in-Break-clause-well g c =
    bag_ends_well (means g.G.Graph c.args.graph.now.below.now) (g.N.NodeKind.key c.args.start) c.loop-cost.found c.turn.new.found c.loop-cost.heap c.loop-cost.sinks.sinks c.turn.new.sinks.sinks c.loop-cost.cost g.C.CostKind.weight c.loop-cost.invariant.3 (grind arith)

pub returns-in-Break-clause-answer : goal.returns-in-Break-clause-answer
returns-in-Break-clause-answer g c =
    let K = g.C.CostKind.kind in
    let M = means g.G.Graph c.args.graph.now.below.now in
    let h = g.G.Graph.guesses c.args.graph.now.below.now in
    let cap = capacity_of c.args.found.now in
    let weight = g.C.CostKind.weight in
    let inv = c.loop-cost.invariant in
    let b : Bag = bag_of weight c.loop-cost.found c.loop-cost.heap c.loop-cost.sinks.sinks c.loop-cost.cost in
    let e : bag K M h cap (first_out b.search.waits) b ≡ done (ended (option_map weight c.loop-cost.cost) c.turn.new.found.rows c.turn.new.sinks.sinks) = grind arith in
    inv.4 _ (Ends.last e)

pub returns-in_err-turn-clause-answer : goal.returns-in_err-turn-clause-answer
returns-in_err-turn-clause-answer g c =
    let q : bag_end g.C.CostKind.weight c.from_residual.result c.turn.new.found.rows c.turn.new.sinks.sinks ≡ stopped c.in_err-turn.field-0.0 = grind (arith, common_steps) in
    let K = g.C.CostKind.kind in
    let M = means g.G.Graph c.args.graph.now.below.now in
    let h = g.G.Graph.guesses c.args.graph.now.below.now in
    let cap = capacity_of c.args.found.now in
    let weight = g.C.CostKind.weight in
    let inv = c.loop-cost.invariant in
    let b : Bag = bag_of weight c.loop-cost.found c.loop-cost.heap c.loop-cost.sinks.sinks c.loop-cost.cost in
    let e : bag K M h cap (first_out b.search.waits) b ≡ done (stopped c.in_err-turn.field-0.0) = grind arith in
    rw q (inv.4 _ (Ends.last e))
