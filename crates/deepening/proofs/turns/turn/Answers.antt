use Rattle.std.proofs.Common.{◌≡◌, ◌-◌, length, None, Some, Ok, Err, sym, ◌∙◌, arith}
use Rattle.graph.specs.Means.{means}
use Rattle.deepening.proofs.Steps.{turn_is, scan_off}
use Rattle.deepening.proofs.turns.turn.Goals as goal

pub try_road-requires-clause-off : goal.try_road-requires-clause-off
try_road-requires-clause-off g c =
    let q : c.next_road.result ≡ Ok (Some c.in-Some-2.road) = cc (c.in_ok-next_road.was) in
    scan_off g.N.NodeKind.key g.C.CostKind.weight g.C.CostKind.kind (means g.G.Graph c.args.graph.now) (g.G.Graph.guesses c.args.graph.now) c.args.register.now c.args.tries.now c.in-Some.end c.in-Some.ensures c.next_road.result c.in-Some-2.road c.next_road.ensures q

pub returns-in_err-next_road-clause-answer : goal.returns-in_err-next_road-clause-answer
returns-in_err-next_road-clause-answer g c =
    let q : c.next_road.result ≡ Err c.in_err-next_road.field-0.0 = cc (c.in_err-next_road.was) in
    let e : c.from_residual.result ≡ Err c.in_err-next_road.field-0.0 = grind arith in
    let z = rw q at (turn_is g.N.NodeKind.key g.C.CostKind.weight g.C.CostKind.kind (means g.G.Graph c.args.graph.now) (g.G.Graph.guesses c.args.graph.now) c.args.register.now c.args.tries.now c.in-Some.end c.in-Some.ensures c.next_road.result c.next_road.ensures c.args.register.now.room (g.N.NodeKind.key c.args.start) c.args.pass.now) in
    rw e (sym z)

pub returns-in-None-clause-answer : goal.returns-in-None-clause-answer
returns-in-None-clause-answer g c =
    let q : c.next_road.result ≡ Ok None = cc (c.in_ok-next_road.was) in
    let l : length c.args.register.now.listed - 1 ≡ c.in-Some.end.row = omega (arith, c.in-Some.ensures.last) in
    let z = rw q at (turn_is g.N.NodeKind.key g.C.CostKind.weight g.C.CostKind.kind (means g.G.Graph c.args.graph.now) (g.G.Graph.guesses c.args.graph.now) c.args.register.now c.args.tries.now c.in-Some.end c.in-Some.ensures c.next_road.result c.next_road.ensures c.args.register.now.room (g.N.NodeKind.key c.args.start) c.args.pass.now) in
    rw (rw l at c.take_back.ensures.path) (sym z)

pub returns-in-Some-2-clause-answer : goal.returns-in-Some-2-clause-answer
returns-in-Some-2-clause-answer g c =
    let q : c.next_road.result ≡ Ok (Some c.in-Some-2.road) = cc (c.in_ok-next_road.was) in
    let z = rw q at (turn_is g.N.NodeKind.key g.C.CostKind.weight g.C.CostKind.kind (means g.G.Graph c.args.graph.now) (g.G.Graph.guesses c.args.graph.now) c.args.register.now c.args.tries.now c.in-Some.end c.in-Some.ensures c.next_road.result c.next_road.ensures c.args.register.now.room (g.N.NodeKind.key c.args.start) c.args.pass.now) in
    c.try_road.ensures.answer ∙ sym z
