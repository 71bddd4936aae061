use Rattle.std.proofs.Common.{◌≡◌, ◌-◌, length, ◌∙◌, arith}
use Rattle.store.proofs.Backs.{found_less}
use Rattle.store.proofs.register.Register.take_back.Goals as goal

pub returns-clause-listed : goal.returns-clause-listed
returns-clause-listed g c = rw (← c.self.view_is) (c.remove.ensures.found ∙ found_less c.self.inside.rows.now c.self.inside.len c.self.invariant.fits)
