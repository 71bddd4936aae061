use Rattle.planner.proofs.bag.bag.Goals as goal

pub returns-clause-answer : goal.returns-clause-answer
returns-clause-answer g c = rw (← c.begin.ensures.room, ← c.begin.ensures.links) c.run.ensures.answer
