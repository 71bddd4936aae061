use Rattle.planner.proofs.Holdings.{nothing_left, none_ready}
use Rattle.planner.proofs.settle.drop_all.Goals as goal

pub returns-clause-ready : goal.returns-clause-ready
returns-clause-ready g c = rw (c.clear.ensures.rows, c.clear-2.ensures.sinks) (none_ready c.clear.new.self.left)

pub returns-clause-come : goal.returns-clause-come
returns-clause-come g c = nothing_left c.clear.new.self c.clear-2.new.self.sinks c.clear-2.ensures.sinks
