use Rattle.std.proofs.Common.{◌<◌, arith}
use Rattle.std.proofs.lemmas.Grind.{common_steps}
use Rattle.listing.proofs.Joins.{kept_less}
use Rattle.listing.proofs.sinks.Sinks.drop_latest.Goals as goal

pub invariant_of-self : goal.invariant_of-self
invariant_of-self c =
    let i = c.self.inside in
    let f = c.self.invariant.fits in
    let r = rw (← c.self.view_is) at c.requires in
    let p : 0 < i.count = grind (arith, common_steps) in
    kept_less i.rows.now i.count c.self.invariant p
