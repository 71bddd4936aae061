use Rattle.store.proofs.Buckets.{fresh_from}
use Rattle.store.proofs.register.Register.add.Goals as goal

pub insert-requires-clause-fresh : goal.insert-requires-clause-fresh
insert-requires-clause-fresh g c =
    fresh_from _ _ _ _ c.self.invariant.fits c.self.invariant.single (rw (← c.self.view_is) at c.requires.fresh)
