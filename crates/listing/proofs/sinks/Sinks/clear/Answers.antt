use Rattle.listing.proofs.Joins.{kept_none}
use Rattle.listing.proofs.sinks.Sinks.clear.Goals as goal

pub invariant_of-self : goal.invariant_of-self
invariant_of-self c = kept_none c.self.inside.rows.now
