use Rattle.std.proofs.Common.{arith}
use Rattle.planner.specs.Turns.{end_of}
use Rattle.planner.proofs.planner_type.Planner.idastar.Goals as goal

pub returns : goal.returns
returns g c = record {
  outcome = end_of g.C.CostKind.weight c.find_path-end.result c.find_path-end.new.self.rows;
  comes = rw (← c.self.view_is) c.find_path-end.ensures.answer;
  answers = c.settle_one.ensures.answer;
  leaves = rw (← c.self.view_is) (grind arith);
}
