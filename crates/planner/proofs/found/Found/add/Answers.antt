use Rattle.std.proofs.Common.{◌≡◌, [], ◌∷◌, ◌++◌, length, sym, ◌∙◌, arith}
use Rattle.planner.proofs.Maps.{rows_push, set_last, lists}
use Rattle.planner.proofs.Keeping.{room_push}
use Rattle.planner.proofs.Pairs.{paired_push}
use Rattle.planner.proofs.found.Found.add.Goals as goal

pub invariant_of-self : goal.invariant_of-self
invariant_of-self g c =
    let l = c.self.inside.register.listed in
    let r = c.args.road.now in
    paired_push c.self.inside.register c.add.new.self c.self.inside.parents c.replace.new.self c.self.invariant c.add.ensures.room (c.replace.ensures.rows ∙ c.start_list.ensures.rows) c.replace.result r.row (grind (arith, lists)) (grind (arith, lists)) (grind (arith, lists)) (grind (arith, lists))

pub returns-clause-answer : goal.returns-clause-answer
returns-clause-answer g c =
    let l = c.self.inside.register.listed in
    let ps = c.self.inside.parents.lists in
    let r = c.args.road.now in
    let a = room_push g.N.NodeKind.key g.C.CostKind.weight l ps c.self.invariant.even c.self.inside.parents.keeps c.self.inside.parents.room (length l) (r.node, r.sum) r.row (sym c.self.invariant.even) in
    rw (← c.self.view_is) (grind (arith, a))

pub returns-clause-rows : goal.returns-clause-rows
returns-clause-rows g c =
    let l = c.self.inside.register.listed in
    let ps = c.self.inside.parents.lists in
    let r = c.args.road.now in
    let a = rows_push g.N.NodeKind.key g.C.CostKind.weight l ps (r.node, r.sum) (r.row ∷ []) c.self.invariant.even in
    let b = set_last ps [] (r.row ∷ []) (length l) (sym c.self.invariant.even) in
    let n : c.add.new.self.listed ≡ l ++ (r.node, r.sum) ∷ [] = grind (arith, lists) in
    rw (← c.self.view_is) (λ t. grind (arith, a, b, n, t))
