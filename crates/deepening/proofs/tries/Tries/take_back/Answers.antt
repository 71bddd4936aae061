use Rattle.std.proofs.Common.{arith}
use Rattle.deepening.proofs.Kept.{lefts_length, lefts_less}
use Rattle.deepening.proofs.tries.Tries.take_back.Goals as goal

pub returns-clause-lefts : goal.returns-clause-lefts
returns-clause-lefts c =
    let e = lefts_length c.self.inside.rows.now c.self.inside.len c.self.invariant in
    rw (← c.self.view_is, e) (lefts_less c.self.inside.rows.now c.self.inside.len _ (omega arith))
