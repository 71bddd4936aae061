use Rattle.std.proofs.Common.{◌<◌, length, refl, arith}
use Rattle.planner.proofs.Maps.{some_of, row_at, lists}
use Rattle.planner.proofs.Keeping.{tied_is, room_tied}
use Rattle.planner.proofs.Pairs.{paired_added}
use Rattle.planner.proofs.found.Found.tie.Goals as goal

pub invariant_of-self : goal.invariant_of-self
invariant_of-self g c =
    paired_added c.self.inside.register c.self.inside.register c.self.inside.parents c.add.new.self c.self.invariant refl c.add.ensures.rows c.add.result c.args.row c.args.parent refl c.add.ensures.lists (grind (arith, lists))

pub returns-then-contains-clause-answer : goal.returns-then-contains-clause-answer
returns-then-contains-clause-answer g c =
    let l = c.self.inside.register.listed in
    let ps = c.self.inside.parents.lists in
    let h : c.args.row < length l = grind (arith, lists) in
    let e = row_at g.N.NodeKind.key g.C.CostKind.weight l ps c.args.row (some_of l c.args.row h) c.self.invariant.even h in
    rw (← c.self.view_is) (grind (arith, e))

pub returns-then-contains-clause-rows : goal.returns-then-contains-clause-rows
returns-then-contains-clause-rows g c =
    let l = c.self.inside.register.listed in
    let ps = c.self.inside.parents.lists in
    let h : c.args.row < length l = grind (arith, lists) in
    let e = row_at g.N.NodeKind.key g.C.CostKind.weight l ps c.args.row (some_of l c.args.row h) c.self.invariant.even h in
    rw (← c.self.view_is) (λ t. grind (arith, e, t))

pub returns-else-contains-clause-answer : goal.returns-else-contains-clause-answer
returns-else-contains-clause-answer g c =
    let l = c.self.inside.register.listed in
    let ps = c.self.inside.parents.lists in
    let h : c.args.row < length l = grind (arith, lists) in
    let d = some_of l c.args.row h in
    let e = row_at g.N.NodeKind.key g.C.CostKind.weight l ps c.args.row d c.self.invariant.even h in
    let a = room_tied g.N.NodeKind.key g.C.CostKind.weight l ps c.self.invariant.even c.self.inside.parents.room c.args.row c.args.parent d h in
    rw (← c.self.view_is) (grind (arith, e, a))

pub returns-else-contains-clause-rows : goal.returns-else-contains-clause-rows
returns-else-contains-clause-rows g c =
    let l = c.self.inside.register.listed in
    let ps = c.self.inside.parents.lists in
    let h : c.args.row < length l = grind (arith, lists) in
    let d = some_of l c.args.row h in
    let e = row_at g.N.NodeKind.key g.C.CostKind.weight l ps c.args.row d c.self.invariant.even h in
    let a = tied_is g.N.NodeKind.key g.C.CostKind.weight l ps c.self.invariant.even c.args.row c.args.parent d h in
    rw (← c.self.view_is) (λ t. grind (arith, e, a, t))
