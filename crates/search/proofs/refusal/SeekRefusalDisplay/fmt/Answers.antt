use Rattle.search.proofs.refusal.SeekRefusalDisplay.fmt.Goals as goal

pub returns-in-FaultyRoad-clause-writes : goal.returns-in-FaultyRoad-clause-writes
returns-in-FaultyRoad-clause-writes g c = rw c.in-FaultyRoad.is c.write.ensures.writes

pub returns-in-ZeroWeight-clause-writes : goal.returns-in-ZeroWeight-clause-writes
returns-in-ZeroWeight-clause-writes g c = rw c.in-ZeroWeight.is c.write-in-ZeroWeight.ensures.writes
