use Rattle.planner.proofs.roads.found_again.Goals as goal

pub returns-then-not-cheapen-clause-served : goal.returns-then-not-cheapen-clause-served
returns-then-not-cheapen-clause-served g c = record {
  even = rw c.cheapen.ensures.after.room c.requires.served.even;
  waiting = g.met.W.Waits.wider _ _ _ c.cheapen.ensures.after.grows c.requires.served.waiting;
}

pub returns-then-not-tie-clause-served : goal.returns-then-not-tie-clause-served
returns-then-not-tie-clause-served g c = record {
  even = rw c.tie.ensures.after.room c.requires.served.even;
  waiting = g.met.W.Waits.wider _ _ _ c.tie.ensures.after.grows c.requires.served.waiting;
}
