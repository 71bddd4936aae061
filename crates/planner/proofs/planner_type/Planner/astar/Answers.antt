use Rattle.std.proofs.Common.{◌≡◌, true, refl, arith}
use Rattle.search.specs.declared.refusal.SeekRefusal.TheVariants.{NotHeld}
use Rattle.search.specs.Outcome.{stopped}
use Rattle.planner.specs.Turns.{end_of}
use Rattle.planner.proofs.planner_type.Planner.astar.Goals as goal

pub returns-then-not-held : goal.returns-then-not-held
returns-then-not-held g c = record {
  outcome = stopped NotHeld;
  comes = grind arith;
  answers = refl;
  leaves = rw (← c.self.view_is) (grind arith);
}

pub returns : goal.returns
returns g c =
    let h : g.G.Graph.holds c.args.graph.now (g.N.NodeKind.key c.args.start) ≡ true = grind arith in
    record {
      outcome = end_of g.C.CostKind.weight c.best-end.result c.best-end.new.found.rows;
      comes = rw (← c.self.view_is, h) c.best-end.ensures.answer;
      answers = c.settle_one.ensures.answer;
      leaves = rw (← c.self.view_is) (grind arith);
    }
