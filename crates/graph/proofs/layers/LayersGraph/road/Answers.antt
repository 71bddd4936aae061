-- The road past all layers.
use Rattle.std.proofs.Common.{arith}
use Rattle.std.proofs.Math.Seq.{take-length}
use Rattle.graph.proofs.LayersPile.{laid_road}
use Rattle.graph.proofs.layers.LayersGraph.road.Goals as goal

pub returns : goal.returns
returns g c = grind (arith, laid_road, take-length c.args.self.now.layers.now)
