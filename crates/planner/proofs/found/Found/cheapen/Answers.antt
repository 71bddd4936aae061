use Rattle.std.proofs.Common.{◌≡◌, ◌<◌, [], ◌∷◌, Some, length, get_or, arith, length-set}
use Rattle.store.specs.Rows.{number_of}
use Rattle.planner.proofs.Maps.{some_of, number_key, rows_set, lists}
use Rattle.planner.proofs.Keeping.{room_set}
use Rattle.planner.proofs.Pairs.{paired_replaced}
use Rattle.planner.proofs.found.Found.cheapen.Goals as goal

pub invariant_of-self : goal.invariant_of-self
invariant_of-self g c =
    let l = c.self.inside.register.listed in
    let h : c.args.row < length l = grind (arith, lists) in
    let e = c.set_value.ensures.listed (some_of l c.args.row h) in
    paired_replaced c.self.inside.register c.set_value.new.self c.self.inside.parents c.replace.new.self c.self.invariant c.set_value.ensures.room c.replace.ensures.rows c.replace.result c.args.row c.args.road.now.row (grind (arith, length-set, e)) c.replace.ensures.lists (grind (arith, lists))

pub returns-clause-after : goal.returns-clause-after
returns-clause-after g c =
    let l = c.self.inside.register.listed in
    let h : c.args.row < length l = grind (arith, lists) in
    let e = c.set_value.ensures.listed (some_of l c.args.row h) in
    grind (arith, lists)

pub returns-clause-fits : goal.returns-clause-fits
returns-clause-fits g c =
    let l = c.self.inside.register.listed in
    let h : c.args.row < length l = grind (arith, lists) in
    let e = c.set_value.ensures.listed (some_of l c.args.row h) in
    grind (arith, lists)

pub returns-clause-answer : goal.returns-clause-answer
returns-clause-answer g c =
    let l = c.self.inside.register.listed in
    let ps = c.self.inside.parents.lists in
    let r = c.args.road.now in
    let h : c.args.row < length l = grind (arith, lists) in
    let a = room_set g.N.NodeKind.key g.C.CostKind.weight l ps c.self.invariant.even c.self.inside.parents.keeps c.self.inside.parents.room c.args.row (r.node, r.sum) r.row h in
    rw (← c.self.view_is) (grind (arith, a))

pub returns-clause-rows : goal.returns-clause-rows
returns-clause-rows g c =
    let l = c.self.inside.register.listed in
    let ps = c.self.inside.parents.lists in
    let r = c.args.road.now in
    let key = g.N.NodeKind.key in
    let s : number_of key (key r.node) l ≡ Some c.args.row = grind (arith, lists) in
    let h : c.args.row < length l = grind (arith, lists) in
    let d = some_of l c.args.row h in
    let e = c.set_value.ensures.listed d in
    let n = number_key key (key r.node) l c.args.row d s in
    let a = rows_set key g.C.CostKind.weight l ps c.args.row ((get_or l c.args.row d).0, r.sum) (r.row ∷ []) c.self.invariant.even in
    rw (← c.self.view_is) (λ t. grind (arith, a, e, n, t))
