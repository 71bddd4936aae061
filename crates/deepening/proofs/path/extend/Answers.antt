use Rattle.std.proofs.Common.{◌≡◌, true, ltb, length, arith}
use Rattle.std.proofs.lemmas.List.{map-append}
use Rattle.search.specs.Scan.{untried}
use Rattle.deepening.proofs.Nodes.{number_none, rows_push}
use Rattle.deepening.proofs.path.extend.Goals as goal

pub add-requires : goal.add-requires
add-requires g c = record { fresh = number_none g.N.NodeKind.key g.C.CostKind.weight _ c.args.register.now.listed c.requires.off }

pub returns-clause-path : goal.returns-clause-path
returns-clause-path g c =
    let xs = c.args.register.now.listed in
    let t : ltb (length xs) c.args.register.now.room ≡ true = grind arith in
    let p = rows_push g.N.NodeKind.key g.C.CostKind.weight xs c.args.tries.now.lefts (c.args.node, c.args.cost) untried c.requires.paired.as_many in
    rw (rw t at c.add.ensures.listed, c.add-2.ensures.lefts) p

pub returns-clause-keys : goal.returns-clause-keys
returns-clause-keys g c =
    let t : ltb (length c.args.register.now.listed) c.args.register.now.room ≡ true = grind arith in
    rw (rw t at c.add.ensures.listed) (map-append _ c.args.register.now.listed _)
