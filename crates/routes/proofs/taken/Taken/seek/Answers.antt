-- what the two calls say in words of routes, by the graph's laws
use Rattle.search.proofs.Taken.{taken_route, not_finished, none_begins, not_denied}
use Rattle.routes.proofs.taken.Taken.seek.Goals as goal

pub returns-in_default-clause-answers : goal.returns-in_default-clause-answers
returns-in_default-clause-answers g c =
    none_begins _ _ _ _ (g.G.Graph.lawful c.args.graph.now) _ 0 _ _ c.seek.new.self (rw c.in_default.is at c.in_ok-cost.ensures)

pub returns-in_err-length-clause-enough : goal.returns-in_err-length-clause-enough
returns-in_err-length-clause-enough g c some enough r q =
    not_denied _ _ _ _ (g.G.Graph.lawful c.args.graph.now) _ _ _ _ _ _ _ some enough (rw c.in-Some.is at c.in_ok-cost.ensures) c.in_err-length.ensures.call

pub returns-in_default-2-clause-answers : goal.returns-in_default-2-clause-answers
returns-in_default-2-clause-answers g c b =
    not_finished _ _ _ _ (g.G.Graph.lawful c.args.graph.now) _ _ _ _ _ _ (rw c.in-Some.is at c.in_ok-cost.ensures) (rw c.in_default-2.is at c.in_ok-length.ensures.call)

pub returns-in_default-2-clause-calls : goal.returns-in_default-2-clause-calls
returns-in_default-2-clause-calls g c =
    absurd (not_finished _ _ _ _ (g.G.Graph.lawful c.args.graph.now) _ _ _ _ _ _ (rw c.in-Some.is at c.in_ok-cost.ensures) (rw c.in_default-2.is at c.in_ok-length.ensures.call))

pub returns-clause-answers : goal.returns-clause-answers
returns-clause-answers g c =
    taken_route _ _ _ _ (g.G.Graph.lawful c.args.graph.now) _ _ _ _ _ _ _ (rw c.in-Some.is at c.in_ok-cost.ensures) (rw c.in-Some-2.is at c.in_ok-length.ensures.call)
