use Rattle.std.proofs.Common.{◌<◌, length, arith}
use Rattle.planner.proofs.Maps.{some_of, row_at, lists}
use Rattle.planner.proofs.found.Found.cost.Goals as goal

pub returns : goal.returns
returns g c =
    let l = c.self.inside.register.listed in
    let ps = c.self.inside.parents.lists in
    let h : c.args.row < length l = grind (arith, lists) in
    let d = some_of l c.args.row h in
    let e = row_at g.N.NodeKind.key g.C.CostKind.weight l ps c.args.row d c.self.invariant.even h in
    let f = c.value.ensures d in
    rw (← c.self.view_is) (grind arith)
