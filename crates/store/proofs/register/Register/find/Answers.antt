use Rattle.std.proofs.Common.{sym, ◌∙◌}
use Rattle.store.proofs.Buckets.{number_some, number_none}
use Rattle.store.proofs.register.Register.find.Goals as goal

pub returns-in_err-row : goal.returns-in_err-row
returns-in_err-row g c = rw (← c.self.view_is) (c.from_residual.ensures ∙ sym (number_none _ _ _ _ c.self.invariant.fits c.in_err-row.ensures))

pub returns : goal.returns
returns g c =
    rw (← c.self.view_is) (sym (number_some _ _ _ _ _ c.self.invariant.fits c.self.invariant.single c.in_ok-row.ensures.0 c.in_ok-row.ensures.1))
