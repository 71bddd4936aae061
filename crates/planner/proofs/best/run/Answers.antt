use Rattle.std.proofs.Common.{◌≡◌, List, sym, arith}
use Rattle.std.proofs.lemmas.Grind.{common_steps}
use Rattle.graph.specs.Means.{means}
use Rattle.search.specs.Ends.{Ends, more, done}
use Rattle.search.specs.Outcome.{stopped}
use Rattle.search.specs.Queue.{Entry, first_out}
use Rattle.search.specs.Roads.{State, one}
use Rattle.search.specs.Best.{best}
use Rattle.search.proofs.HeapEnds.{best_falls}
use Rattle.search.proofs.Rooted.{best_begins, best_keeps}
use Rattle.planner.specs.Standing.{capacity_of, state_of}
use Rattle.planner.specs.Entries.{entries_of}
use Rattle.planner.specs.Turns.{ending, end_of}
use Rattle.planner.proofs.Trees.{ends_well}
use Rattle.planner.proofs.best.run.Goals as goal

pub loop-end-init : goal.loop-end-init
loop-end-init g c = (
  c.requires.served,
  grind arith,
  rw c.requires.begun (best_begins one (means g.G.Graph c.args.graph.now) (g.N.NodeKind.key c.args.start) c.requires.held),
  λ o x. rw c.requires.begun at x,
)

pub loop-end-preserved : goal.loop-end-preserved
loop-end-preserved g c =
    let K = g.C.CostKind.kind in
    let M = means g.G.Graph c.args.graph.now in
    let estimate = g.G.Estimates.estimates c.args.graph.now in
    let cap = capacity_of c.args.found.now in
    let weight = g.C.CostKind.weight in
    let inv = c.loop-end.invariant in
    let s : State (List Entry) = state_of c.loop-end.found (entries_of weight c.loop-end.heap) in
    let t : State (List Entry) = state_of c.turn.new.found (entries_of weight c.turn.new.heap) in
    let e : more t ≡ best K M estimate cap (first_out s.waits) s = grind arith in (
      c.turn.ensures.served,
      grind arith,
      best_keeps K M estimate cap (g.G.Graph.lawful c.args.graph.now) (g.N.NodeKind.key c.args.start) s t inv.2 e,
      λ o x. inv.3 o (Ends.next (sym e) x),
    )

pub loop-end-smaller : goal.loop-end-smaller
loop-end-smaller g c =
    let K = g.C.CostKind.kind in
    let M = means g.G.Graph c.args.graph.now in
    let estimate = g.G.Estimates.estimates c.args.graph.now in
    let cap = capacity_of c.args.found.now in
    let weight = g.C.CostKind.weight in
    let inv = c.loop-end.invariant in
    let s : State (List Entry) = state_of c.loop-end.found (entries_of weight c.loop-end.heap) in
    let t : State (List Entry) = state_of c.turn.new.found (entries_of weight c.turn.new.heap) in
    let e : more t ≡ best K M estimate cap (first_out s.waits) s = grind arith in
    best_falls K M estimate cap g.met.C.CostKind.bound s t e

pub returns-in-Break-clause-well : goal.returns-in-Break-clause-well
returns-in-Break-clause-well g c =
    ends_well (means g.G.Graph c.args.graph.now) (g.N.NodeKind.key c.args.start) c.loop-end.found c.turn.new.found c.in-Break.end c.loop-end.invariant.2.tree (grind arith)

pub returns-in-Break-clause-answer : goal.returns-in-Break-clause-answer
returns-in-Break-clause-answer g c =
    let K = g.C.CostKind.kind in
    let M = means g.G.Graph c.args.graph.now in
    let estimate = g.G.Estimates.estimates c.args.graph.now in
    let cap = capacity_of c.args.found.now in
    let weight = g.C.CostKind.weight in
    let inv = c.loop-end.invariant in
    let s : State (List Entry) = state_of c.loop-end.found (entries_of weight c.loop-end.heap) in
    let e : best K M estimate cap (first_out s.waits) s ≡ done (ending weight c.in-Break.end c.turn.new.found.rows) = grind arith in
    inv.3 _ (Ends.last e)

pub returns-in_err-end-clause-answer : goal.returns-in_err-end-clause-answer
returns-in_err-end-clause-answer g c =
    let q : end_of g.C.CostKind.weight c.from_residual.result c.turn.new.found.rows ≡ stopped c.in_err-end.field-0.0 = grind (arith, common_steps) in
    let K = g.C.CostKind.kind in
    let M = means g.G.Graph c.args.graph.now in
    let estimate = g.G.Estimates.estimates c.args.graph.now in
    let cap = capacity_of c.args.found.now in
    let weight = g.C.CostKind.weight in
    let inv = c.loop-end.invariant in
    let s : State (List Entry) = state_of c.loop-end.found (entries_of weight c.loop-end.heap) in
    let e : best K M estimate cap (first_out s.waits) s ≡ done (stopped c.in_err-end.field-0.0) = grind arith in
    rw q (inv.3 _ (Ends.last e))
