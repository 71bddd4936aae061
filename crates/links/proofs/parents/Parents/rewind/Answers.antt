use Rattle.std.proofs.Common.{arith}
use Rattle.links.proofs.Singles.{length_singles, not_rewound}
use Rattle.links.proofs.parents.Parents.rewind.Goals as goal

pub returns-in-One-clause-left : goal.returns-in-One-clause-left
returns-in-One-clause-left c =
    let i = c.self.inside in
    let v = rw c.in-One.is at c.self.view_is in
    let f = c.self.invariant in
    let r = rw (← v) at c.requires in
    let n = length_singles i.only.now i.len (omega (arith, f.fits, f.as_many)) in
    rw (← v) (not_rewound i.only.now i.len (omega (arith, f.fits, f.as_many)) c.args.row (omega arith))
