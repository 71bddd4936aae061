use Rattle.std.proofs.Common.{◌≤◌, ◌∙◌, ap, set, length, arith}
use Rattle.links.specs.Listings.{added}
use Rattle.links.specs.Parentages.{singles}
use Rattle.links.proofs.Singles.{length_singles, set_single, single_is, added_alone}
use Rattle.links.proofs.parents.Parents.replace.Goals as goal

pub bounds-only-row : goal.bounds-only-row
bounds-only-row c =
    let i = c.self.inside in
    let v = rw c.in-One.is at c.self.view_is in
    let f = c.self.invariant in
    let r = rw (← v) at c.requires.row in
    omega (arith, f.fits, f.as_many, length_singles i.only.now i.len (omega (arith, f.fits, f.as_many)))

pub returns-in-One-clause-lists : goal.returns-in-One-clause-lists
returns-in-One-clause-lists c =
    let i = c.self.inside in
    let v = rw c.in-One.is at c.self.view_is in
    let f = c.self.invariant in
    let l : i.len ≤ length i.only.now = omega (arith, f.fits, f.as_many) in
    let n = length_singles i.only.now i.len l in
    let r = rw (← v) at c.requires.row in
    let p = rw (← v) at c.requires.parent in
    let one = single_is c.args.parent (omega (arith, f.fits, f.few)) in
    rw (c.in-One.is, ← v) (set_single i.only.now i.len l c.args.row c.args.parent (omega arith) ∙ ap (set (singles i.only.now i.len) c.args.row) one)

pub returns-in-One-clause-left : goal.returns-in-One-clause-left
returns-in-One-clause-left c =
    let i = c.self.inside in
    let v = rw c.in-One.is at c.self.view_is in
    let f = c.self.invariant in
    let l : i.len ≤ length i.only.now = omega (arith, f.fits, f.as_many) in
    let n = length_singles i.only.now i.len l in
    let r = rw (← v) at c.requires.row in
    let p = rw (← v) at c.requires.parent in
    let one = single_is c.args.parent (omega (arith, f.fits, f.few)) in
    rw (c.in-One.is, ← v) (set_single i.only.now i.len l c.args.row c.args.parent (omega arith) ∙ ap (set (singles i.only.now i.len) c.args.row) one)

pub returns-in-All-clause-lists : goal.returns-in-All-clause-lists
returns-in-All-clause-lists c =
    let i = c.self.inside in
    let v = rw c.in-All.is at c.self.view_is in
    let r = rw (← v) at c.requires.row in
    rw (c.in-All.is, ← v) (c.add.ensures.lists ∙ ap (added c.add.result c.args.row c.args.parent) c.empty.ensures.lists ∙ added_alone c.add.result c.args.row c.args.parent i.lists.lists r)
