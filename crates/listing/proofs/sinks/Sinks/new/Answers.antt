use Rattle.listing.proofs.Joins.{kept_none}
use Rattle.listing.proofs.sinks.Sinks.new.Goals as goal

pub invariant_of-result : goal.invariant_of-result
invariant_of-result c = kept_none c.args.rows.now
