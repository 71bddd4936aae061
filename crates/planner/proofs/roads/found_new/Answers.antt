use Rattle.planner.proofs.roads.found_new.Goals as goal

pub returns-then-not-add-clause-served : goal.returns-then-not-add-clause-served
returns-then-not-add-clause-served g c = record {
  even = rw c.add.ensures.after.room c.requires.served.even;
  waiting = g.met.W.Waits.wider _ _ _ c.add.ensures.after.grows c.requires.served.waiting;
}
