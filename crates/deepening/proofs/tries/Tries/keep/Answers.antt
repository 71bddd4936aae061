use Rattle.deepening.specs.declared.tries.Tried.TheVariants.{UpTo}
use Rattle.deepening.proofs.Kept.{lefts_set}
use Rattle.deepening.proofs.tries.Tries.keep.Goals as goal

pub returns-clause-lefts : goal.returns-clause-lefts
returns-clause-lefts c = rw (← c.self.view_is) (lefts_set c.self.inside.rows.now c.self.inside.len c.args.row (UpTo c.args.rank))
