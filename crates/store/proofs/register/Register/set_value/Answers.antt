use Rattle.std.proofs.Common.{◌<◌, arith}
use Rattle.store.proofs.Buckets.{length_found, kept_valued, found_valued}
use Rattle.store.proofs.register.Register.set_value.Goals as goal

pub invariant_of-self : goal.invariant_of-self
invariant_of-self g c =
    let f = length_found c.self.inside.rows.now c.self.inside.len c.self.invariant.fits in
    let l : c.args.row < c.self.inside.len = grind arith in
    kept_valued _ _ _ _ l c.self.invariant

pub returns-clause-listed : goal.returns-clause-listed
returns-clause-listed g c d =
    let f = length_found c.self.inside.rows.now c.self.inside.len c.self.invariant.fits in
    let l : c.args.row < c.self.inside.len = grind arith in
    rw (← c.self.view_is) (found_valued _ _ _ _ l c.self.invariant.fits d)
