use Rattle.std.proofs.Common.{◌≡◌, suc, ◌-◌, Some, Ok, length, sym, ◌∙◌, arith}
use Rattle.std.proofs.lemmas.List.{length-map}
use Rattle.graph.specs.Means.{means}
use Rattle.deepening.specs.Views.{outcome_of, nodes_of}
use Rattle.deepening.specs.Steps.{rows_only}
use Rattle.planner.specs.Standing.{rows_of}
use Rattle.planner.specs.Turns.{end_of}
use Rattle.planner.proofs.Maps.{lists}
use Rattle.planner.proofs.Shown.{parents_found}
use Rattle.planner.proofs.Paths.{length_path, path_below, path_route, path_falls, path_some}
use Rattle.planner.proofs.found.Found.find_path.Goals.{in-Ok-Some, in-Ok-None, in-Err}
use Rattle.planner.proofs.found.Found.find_path.Goals as goal

pub overflow_sub-row : goal.overflow_sub-row
overflow_sub-row g c =
    let r : c.idastar-end.result ≡ Ok (Some c.in-Ok-Some.cost) = grind arith in
    let p = path_some g.C.CostKind.kind (means g.G.Graph c.args.graph.now) (g.G.Graph.guesses c.args.graph.now) (rows_only c.self.inside.register.room) (g.N.NodeKind.key c.args.start) (g.C.CostKind.weight c.in-Ok-Some.cost) (nodes_of g.N.NodeKind.key g.C.CostKind.weight c.idastar-end.new.register.listed) (g.G.Graph.lawful c.args.graph.now) (rw r at c.idastar-end.ensures.answer) in
    grind (arith, length-map, p)

pub invariant_of-self : goal.invariant_of-self
invariant_of-self g c = record {
  some = rw c.idastar-end.ensures.rows c.self.invariant.some;
  few = rw c.idastar-end.ensures.rows c.self.invariant.few;
  fits = c.len-count.ensures.fits;
  served = c.chain.ensures.rows ∙ c.self.invariant.served ∙ sym c.idastar-end.ensures.rows;
  even = rw c.chain.ensures.lists (length_path c.len-count.result ∙ c.len-count.ensures.count);
  parents = rw (c.chain.ensures.lists, c.len-count.ensures.count) (path_below (length c.idastar-end.new.register.listed) (length c.idastar-end.new.register.listed) (omega arith));
}

pub returns-clause-answer : goal.returns-clause-answer
returns-clause-answer g c =
    let key = g.N.NodeKind.key in
    let weight = g.C.CostKind.weight in
    let l = c.idastar-end.new.register.listed in
    let rows = rows_of key weight l c.chain.new.parents.lists in
    let q : end_of weight c.match-end.result rows ≡ outcome_of key weight c.idastar-end.result c.idastar-end.new.register =
    elim c.match-end.branch [
      | in-Ok-Some w ↦ (
          let r : c.idastar-end.result ≡ Ok (Some w.in-Ok-Some.cost) = grind arith in
          let p = path_some g.C.CostKind.kind (means g.G.Graph c.args.graph.now) (g.G.Graph.guesses c.args.graph.now) (rows_only c.self.inside.register.room) (key c.args.start) (weight w.in-Ok-Some.cost) (nodes_of key weight l) (g.G.Graph.lawful c.args.graph.now) (rw r at c.idastar-end.ensures.answer) in
          let e : suc (c.len-count.result - 1) ≡ length l = grind (arith, length-map, p) in
          let a = path_route key weight l (c.len-count.result - 1) e in
          grind (arith, a)
          )
      | in-Ok-None w ↦ grind arith
      | in-Err w ↦ grind arith
    ] in
    rw (← c.self.view_is, q) c.idastar-end.ensures.answer

pub returns-clause-well : goal.returns-clause-well
returns-clause-well g c =
    let key = g.N.NodeKind.key in
    let weight = g.C.CostKind.weight in
    let l = c.idastar-end.new.register.listed in
    elim c.match-end.branch [
      | in-Ok-Some w ↦ (
          let r : c.idastar-end.result ≡ Ok (Some w.in-Ok-Some.cost) = grind arith in
          let p = path_some g.C.CostKind.kind (means g.G.Graph c.args.graph.now) (g.G.Graph.guesses c.args.graph.now) (rows_only c.self.inside.register.room) (key c.args.start) (weight w.in-Ok-Some.cost) (nodes_of key weight l) (g.G.Graph.lawful c.args.graph.now) (rw r at c.idastar-end.ensures.answer) in
          let n : length c.chain.new.parents.lists ≡ length l = rw c.chain.ensures.lists (length_path c.len-count.result ∙ c.len-count.ensures.count) in
          rw (w.result-is, parents_found key weight l c.chain.new.parents.lists n, c.chain.ensures.lists) (grind (arith, lists, length-map, p), path_falls c.len-count.result)
          )
      | in-Ok-None w ↦ rw w.result-is tt
      | in-Err w ↦ rw w.result-is tt
    ]
