use Rattle.std.proofs.Common.{◌∙◌, arith}
use Rattle.links.proofs.Singles.{length_singles, got}
use Rattle.links.proofs.parents.Parents.chosen.Goals as goal

pub parent_at-requires : goal.parent_at-requires
parent_at-requires c =
    let i = c.self.inside in
    let v = rw c.in-One.is at c.self.view_is in
    let f = c.self.invariant in
    let r = rw (← v) at c.requires in
    omega (arith, f.fits, f.as_many, length_singles i.only.now i.len (omega (arith, f.fits, f.as_many)))

pub returns-in-One : goal.returns-in-One
returns-in-One c =
    let i = c.self.inside in
    let v = rw c.in-One.is at c.self.view_is in
    let f = c.self.invariant in
    let r = rw (← v) at c.requires in
    let n = length_singles i.only.now i.len (omega (arith, f.fits, f.as_many)) in
    rw (← v) (c.parent_at.ensures ∙ got i.only.now i.len (omega (arith, f.fits, f.as_many)) c.args.row (omega arith))
