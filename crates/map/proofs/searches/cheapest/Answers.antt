-- The guess of every field is true, and so it is of every pile over one.
use Rattle.map.proofs.Surveyed.{cheapest_route}
use Rattle.map.proofs.searches.cheapest.Goals as goal

pub returns-clause-answers : goal.returns-clause-answers
returns-clause-answers c = cheapest_route _ c.args.pile.now _ _ c.seek.ensures.answers
