use Rattle.planner.proofs.Shown.{keys_found, parents_found}
use Rattle.planner.proofs.found.Found.hand_out.Goals as goal

pub returns-clause-gives : goal.returns-clause-gives
returns-clause-gives g c =
    let l = c.self.inside.register.listed in
    let ps = c.self.inside.parents.lists in
    let k = keys_found g.N.NodeKind.key g.C.CostKind.weight l ps in
    let e = parents_found g.N.NodeKind.key g.C.CostKind.weight l ps c.self.invariant.even in
    rw (← c.self.view_is) (rw (k, e) c.hand_out.ensures.gives)

pub returns-clause-leaves : goal.returns-clause-leaves
returns-clause-leaves g c =
    let l = c.self.inside.register.listed in
    let ps = c.self.inside.parents.lists in
    let k = keys_found g.N.NodeKind.key g.C.CostKind.weight l ps in
    let e = parents_found g.N.NodeKind.key g.C.CostKind.weight l ps c.self.invariant.even in
    rw (← c.self.view_is) (rw (c.hand_out.ensures.lists, k, e) (rw c.hand_out.ensures.lists at c.hand_out.ensures.leaves))
