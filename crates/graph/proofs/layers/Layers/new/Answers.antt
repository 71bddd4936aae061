-- Layers over a graph are a pile over it.
use Rattle.graph.specs.Means.{means}
use Rattle.graph.proofs.LayersPile.{laid_pile}
use Rattle.graph.proofs.layers.Layers.new.Goals as goal

pub returns-clause-pile : goal.returns-clause-pile
returns-clause-pile g c = laid_pile g.C.CostKind.kind g.C.CostKind.weight c.args.layers.now (means g.G.Graph c.args.bottom) (g.G.Graph.guesses c.args.bottom)
