use Rattle.std.proofs.Common.{get_or, arith}
use Rattle.std.proofs.lemmas.List.{get_or_default}
use Rattle.store.proofs.chains.seek.Goals as goal

pub returns-then-row-n : goal.returns-then-row-n
returns-then-row-n g c k d lk e =
    let q = g.met.N.NodeKind.alike (get_or c.args.rows.now k d).node c.args.node e in
    let o = c.requires.linked.heads k d lk in
    grind (arith, get_or_default)

pub walk-requires-clause-onward : goal.walk-requires-clause-onward
walk-requires-clause-onward g c k d lk e =
    let q = g.met.N.NodeKind.alike (get_or c.args.rows.now k d).node c.args.node e in
    let o = c.requires.linked.heads k d lk in
    grind (arith, get_or_default)
