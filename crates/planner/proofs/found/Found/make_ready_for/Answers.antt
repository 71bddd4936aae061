use Rattle.std.proofs.Common.{◌≡◌, ◌<◌, [], ◌∷◌, length, inl, inr, refl, arith}
use Rattle.planner.specs.Standing.{rows_of}
use Rattle.planner.proofs.Maps.{lists}
use Rattle.planner.proofs.Shown.{parents_found}
use Rattle.planner.proofs.found.Found.make_ready_for.Goals as goal

pub join-requires : goal.join-requires
join-requires g c =
    let h : c.args.row < length c.self.inside.register.listed = grind (arith, lists) in
    let p = rw (← c.self.view_is) at c.requires.places in
    omega (arith, h, c.self.invariant.fits, p)

pub begin-requires-clause-inside : goal.begin-requires-clause-inside
begin-requires-clause-inside g c = λ s i. (
    let h : c.args.row < length c.self.inside.parents.lists = grind (arith, lists) in
    let j : c.join.new.self.sinks ≡ c.args.row ∷ [] = rw (c.join.ensures.sinks, c.requires.none) refl in
    elim (rw j at i) [ inl e ↦ rw e h | inr x ↦ absurd x ]
    )

pub returns-clause-come : goal.returns-clause-come
returns-clause-come g c =
    let key = g.N.NodeKind.key in
    let weight = g.C.CostKind.weight in
    let l = c.self.inside.register.listed in
    let ps = c.self.inside.parents.lists in
    let e = parents_found key weight l ps c.self.invariant.even in
    let j : c.join.new.self.sinks ≡ c.args.row ∷ [] = rw (c.join.ensures.sinks, c.requires.none) refl in
    let k = c.begin.ensures.come (rows_of key weight l ps) e in
    rw (← c.self.view_is) (rw (c.begin.ensures.lists, e, j) (rw j at k))
