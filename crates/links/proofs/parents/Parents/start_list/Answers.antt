use Rattle.std.proofs.Common.{◌≤◌, length, ◌∙◌, arith}
use Rattle.std.proofs.lemmas.List.{length-set}
use Rattle.links.proofs.Singles.{length_singles, one_more}
use Rattle.links.proofs.parents.Parents.start_list.Goals as goal

pub bounds-only-self-inside : goal.bounds-only-self-inside
bounds-only-self-inside c =
    let i = c.self.inside in
    let v = rw c.in-One.is at c.self.view_is in
    let f = c.self.invariant in
    let r = rw (← v) at c.requires in
    omega (arith, f.fits, f.as_many, length_singles i.only.now i.len (omega (arith, f.fits, f.as_many)))

pub invariant_of-self : goal.invariant_of-self
invariant_of-self c =
    let i = c.self.inside in
    let v = rw c.in-One.is at c.self.view_is in
    let f = c.self.invariant in
    let r = rw (← v) at c.requires in
    let n = length_singles i.only.now i.len (omega (arith, f.fits, f.as_many)) in
    record { as_many = length-set _ _ _ ∙ f.as_many; few = f.few; fits = omega arith }

pub returns-in-One-clause-lists : goal.returns-in-One-clause-lists
returns-in-One-clause-lists c =
    let i = c.self.inside in
    let v = rw c.in-One.is at c.self.view_is in
    let f = c.self.invariant in
    let l : i.len ≤ length i.only.now = omega (arith, f.fits, f.as_many) in
    let n = length_singles i.only.now i.len l in
    let r = rw (← v) at c.requires in
    rw (c.in-One.is, ← v) (one_more i.only.now i.len l (omega (arith, f.as_many)))

pub returns-in-One-clause-left : goal.returns-in-One-clause-left
returns-in-One-clause-left c =
    let i = c.self.inside in
    let v = rw c.in-One.is at c.self.view_is in
    let f = c.self.invariant in
    let l : i.len ≤ length i.only.now = omega (arith, f.fits, f.as_many) in
    let n = length_singles i.only.now i.len l in
    let r = rw (← v) at c.requires in
    rw (c.in-One.is, ← v) (one_more i.only.now i.len l (omega (arith, f.as_many)))
