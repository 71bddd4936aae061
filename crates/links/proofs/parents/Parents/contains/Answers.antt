use Rattle.std.proofs.Common.{◌≤◌, length, eqb, Some, ap, ◌∙◌, arith}
use Rattle.std.specs.Option.{option_eq}
use Rattle.links.proofs.Singles.{length_singles, has_it}
use Rattle.links.proofs.parents.Parents.contains.Goals as goal

pub parent_at-requires : goal.parent_at-requires
parent_at-requires c =
    let i = c.self.inside in
    let v = rw c.in-One.is at c.self.view_is in
    let f = c.self.invariant in
    let r = rw (← v) at c.requires in
    omega (arith, f.fits, f.as_many, length_singles i.only.now i.len (omega (arith, f.fits, f.as_many)))

pub returns-in-One : goal.returns-in-One
returns-in-One c =
    let i = c.self.inside in
    let v = rw c.in-One.is at c.self.view_is in
    let f = c.self.invariant in
    let l : i.len ≤ length i.only.now = omega (arith, f.fits, f.as_many) in
    let n = length_singles i.only.now i.len l in
    let r = rw (← v) at c.requires in
    rw (← v) (c.eq.ensures ∙ ap (λ o. option_eq eqb o (Some c.args.parent)) c.parent_at.ensures ∙ has_it i.only.now i.len l c.args.row c.args.parent (omega arith))
