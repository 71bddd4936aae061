-- the calls' own contracts build the history, and the making's contract has the law
use Rattle.search.specs.History.{after}
use Rattle.planner.proofs.twice.plan_twice.Goals as goal

pub returns : goal.returns
returns g c =
    let first = after c.make-planner.ensures.begins _ _ c.dijkstra-first.ensures in
    let given = after first _ _ c.hand_out-given.ensures.call in
    let second = after given _ _ c.astar-second.ensures in
    let all = after second _ _ c.hand_out-given_again.ensures.call in
    let law = c.make-planner.ensures.law _ _ all in
    record { left = _; history = all; before = law.0; seeks = law.1 }
