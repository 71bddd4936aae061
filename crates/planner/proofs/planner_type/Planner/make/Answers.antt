use Rattle.std.proofs.Common.{arith}
use Rattle.std.proofs.lemmas.Bool.Decides.{nat_tests}
use Rattle.search.specs.History.{made}
use Rattle.planner.proofs.Holdings.{nothing_left, none_ready}
use Rattle.planner.proofs.planner_type.Planner.make.Goals as goal

pub invariant_of-result : goal.invariant_of-result
invariant_of-result g c = record {
  ready = rw (c.over.ensures.rows, c.new.ensures.sinks) (none_ready c.over.result.left);
  heap_rows = grind (arith, nat_tests);
  queue_rows = grind (arith, nat_tests);
  tried_rows = grind (arith, nat_tests);
  places = grind (arith, nat_tests);
}

pub returns-clause-begins : goal.returns-clause-begins
returns-clause-begins g c = rw (nothing_left c.over.result c.new.result.sinks c.new.ensures.sinks) (made _)

pub returns-clause-held : goal.returns-clause-held
returns-clause-held g c = rw (nothing_left c.over.result c.new.result.sinks c.new.ensures.sinks, ← c.lent.view_is) (grind arith)
