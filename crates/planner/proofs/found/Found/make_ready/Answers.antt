use Rattle.std.proofs.Common.{arith}
use Rattle.planner.specs.Standing.{rows_of}
use Rattle.planner.proofs.Maps.{lists}
use Rattle.planner.proofs.Shown.{parents_found}
use Rattle.planner.proofs.found.Found.make_ready.Goals as goal

pub returns-clause-come : goal.returns-clause-come
returns-clause-come g c =
    let key = g.N.NodeKind.key in
    let weight = g.C.CostKind.weight in
    let l = c.self.inside.register.listed in
    let ps = c.self.inside.parents.lists in
    let e = parents_found key weight l ps c.self.invariant.even in
    let k = c.begin.ensures.come (rows_of key weight l ps) e in
    rw (← c.self.view_is) (rw (c.begin.ensures.lists, e) k)

pub begin-requires-clause-inside : goal.begin-requires-clause-inside
begin-requires-clause-inside g c = λ s h. (let x = c.requires.inside s h in grind (arith, lists))
