use Rattle.std.proofs.Common.{◌-◌, length}
use Rattle.deepening.proofs.Nodes.{rows_take}
use Rattle.deepening.proofs.path.take_back.Goals as goal

pub returns-clause-path : goal.returns-clause-path
returns-clause-path g c =
    let xs = c.args.register.now.listed in
    rw (c.take_back.ensures.listed, c.take_back-2.ensures.lefts, ← c.requires.paired.as_many) (rows_take g.N.NodeKind.key g.C.CostKind.weight (length xs - 1) xs c.args.tries.now.lefts)
