use Rattle.std.proofs.Common.{arith}
use Rattle.links.proofs.Singles.{length_singles, none_older}
use Rattle.links.proofs.parents.Parents.has_older.Goals as goal

pub returns-in-One : goal.returns-in-One
returns-in-One c =
    let i = c.self.inside in
    let v = rw c.in-One.is at c.self.view_is in
    let f = c.self.invariant in
    let r = rw (← v) at c.requires in
    let n = length_singles i.only.now i.len (omega (arith, f.fits, f.as_many)) in
    rw (← v) (none_older i.only.now i.len (omega (arith, f.fits, f.as_many)) c.args.row (omega arith))
