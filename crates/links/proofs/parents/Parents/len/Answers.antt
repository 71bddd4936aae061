use Rattle.std.proofs.Common.{sym, arith}
use Rattle.links.proofs.Singles.{length_singles}
use Rattle.links.proofs.parents.Parents.len.Goals as goal

pub returns-in-One-clause-count : goal.returns-in-One-clause-count
returns-in-One-clause-count c =
    let i = c.self.inside in
    let v = rw c.in-One.is at c.self.view_is in
    let f = c.self.invariant in
    rw (← v) (sym (length_singles i.only.now i.len (omega (arith, f.fits, f.as_many))))

pub returns-in-One-clause-fits : goal.returns-in-One-clause-fits
returns-in-One-clause-fits c =
    let i = c.self.inside in
    let v = rw c.in-One.is at c.self.view_is in
    let f = c.self.invariant in
    let n = length_singles i.only.now i.len (omega (arith, f.fits, f.as_many)) in
    rw (← v) (omega (arith, f.fits))
