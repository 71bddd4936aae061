use Rattle.std.proofs.Common.{◌≡◌, sym, arith}
use Rattle.std.proofs.lemmas.Grind.{common_steps}
use Rattle.graph.specs.Means.{means}
use Rattle.search.specs.Ends.{Ends, more, done}
use Rattle.search.specs.Outcome.{stopped}
use Rattle.search.specs.Roads.{State}
use Rattle.search.specs.Fringe.{Fringe, fringe}
use Rattle.search.proofs.FringeEnds.{fringe_falls, begin_above}
use Rattle.search.proofs.Rooted.{fringe_begins, fringe_keeps}
use Rattle.planner.specs.Standing.{capacity_of, state_of}
use Rattle.planner.specs.TwoQueues.{fringe_of}
use Rattle.planner.specs.Turns.{ending, end_of}
use Rattle.planner.proofs.Trees.{ends_well}
use Rattle.planner.proofs.passes.run.Goals as goal

pub loop-end-init : goal.loop-end-init
loop-end-init g c =
    let K = g.C.CostKind.kind in
    let M = means g.G.Graph c.args.graph.now in
    let h = g.G.Graph.guesses c.args.graph.now in
    let cap = capacity_of c.args.found.now in
    let start = g.N.NodeKind.key c.args.start in
    let a = begin_above K M h cap g.met.C.CostKind.bound start in (
      c.requires.served,
      grind arith,
      rw c.requires.begun (fringe_begins K M h cap start c.requires.held),
      grind (arith, a),
      λ o x. rw c.requires.begun at x,
    )

pub loop-end-preserved : goal.loop-end-preserved
loop-end-preserved g c =
    let K = g.C.CostKind.kind in
    let M = means g.G.Graph c.args.graph.now in
    let h = g.G.Graph.guesses c.args.graph.now in
    let cap = capacity_of c.args.found.now in
    let weight = g.C.CostKind.weight in
    let inv = c.loop-end.invariant in
    let s : State Fringe = state_of c.loop-end.found (fringe_of weight c.loop-end.waits) in
    let t : State Fringe = state_of c.turn.new.found (fringe_of weight c.turn.new.waits) in
    let e : more t ≡ fringe K M h cap s.waits.now s = grind arith in (
      c.turn.ensures.served,
      grind arith,
      fringe_keeps K M cap (g.G.Graph.lawful c.args.graph.now) (g.N.NodeKind.key c.args.start) s t inv.2 e,
      (fringe_falls K M h cap g.met.C.CostKind.bound s t inv.3 e).0,
      λ o x. inv.4 o (Ends.next (sym e) x),
    )

pub loop-end-smaller : goal.loop-end-smaller
loop-end-smaller g c =
    let K = g.C.CostKind.kind in
    let M = means g.G.Graph c.args.graph.now in
    let h = g.G.Graph.guesses c.args.graph.now in
    let cap = capacity_of c.args.found.now in
    let weight = g.C.CostKind.weight in
    let inv = c.loop-end.invariant in
    let s : State Fringe = state_of c.loop-end.found (fringe_of weight c.loop-end.waits) in
    let t : State Fringe = state_of c.turn.new.found (fringe_of weight c.turn.new.waits) in
    let e : more t ≡ fringe K M h cap s.waits.now s = grind arith in
    (fringe_falls K M h cap g.met.C.CostKind.bound s t inv.3 e).1

pub returns-in-Break-clause-well : goal.returns-in-Break-clause-well
returns-in-Break-clause-well g c =
    ends_well (means g.G.Graph c.args.graph.now) (g.N.NodeKind.key c.args.start) c.loop-end.found c.turn.new.found c.in-Break.end c.loop-end.invariant.2.tree (grind arith)

pub returns-in-Break-clause-answer : goal.returns-in-Break-clause-answer
returns-in-Break-clause-answer g c =
    let K = g.C.CostKind.kind in
    let M = means g.G.Graph c.args.graph.now in
    let h = g.G.Graph.guesses c.args.graph.now in
    let cap = capacity_of c.args.found.now in
    let weight = g.C.CostKind.weight in
    let inv = c.loop-end.invariant in
    let s : State Fringe = state_of c.loop-end.found (fringe_of weight c.loop-end.waits) in
    let e : fringe K M h cap s.waits.now s ≡ done (ending weight c.in-Break.end c.turn.new.found.rows) = grind arith in
    inv.4 _ (Ends.last e)

pub returns-in_err-end-clause-answer : goal.returns-in_err-end-clause-answer
returns-in_err-end-clause-answer g c =
    let q : end_of g.C.CostKind.weight c.from_residual.result c.turn.new.found.rows ≡ stopped c.in_err-end.field-0.0 = grind (arith, common_steps) in
    let K = g.C.CostKind.kind in
    let M = means g.G.Graph c.args.graph.now in
    let h = g.G.Graph.guesses c.args.graph.now in
    let cap = capacity_of c.args.found.now in
    let weight = g.C.CostKind.weight in
    let inv = c.loop-end.invariant in
    let s : State Fringe = state_of c.loop-end.found (fringe_of weight c.loop-end.waits) in
    let e : fringe K M h cap s.waits.now s ≡ done (stopped c.in_err-end.field-0.0) = grind arith in
    rw q (inv.4 _ (Ends.last e))
