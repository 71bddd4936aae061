use Rattle.std.proofs.Common.{◌-◌, arith}
use Rattle.deepening.proofs.Nodes.{rows_get}
use Rattle.deepening.proofs.path.end_of.Goals as goal

pub returns : goal.returns
returns g c =
    let z = c.if-len-eq0.false in
    let e = c.len-len.ensures.count in
    record {
      last = omega (arith, e, z);
      row = rows_get g.N.NodeKind.key g.C.CostKind.weight c.args.register.now.listed c.args.tries.now.lefts (c.len-len.result - 1) c.node-node.result c.value-cost.result _ (omega (arith, e, z)) c.requires.as_many c.node-node.ensures c.value-cost.ensures c.tried-tried.ensures;
    }
