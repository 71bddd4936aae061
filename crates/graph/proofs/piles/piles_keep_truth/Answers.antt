-- The facts about piles.
use Rattle.graph.proofs.Kept.{piles_keep_truth, piles_nest}
use Rattle.graph.proofs.Routes.{fences_part_routes, tolls_add_weight}
use Rattle.graph.proofs.piles.piles_keep_truth.Goals as goal

pub returns : goal.returns
returns c =
    record {
      truth = piles_keep_truth;
      nested = piles_nest;
      fence = fences_part_routes;
      toll = tolls_add_weight;
    }
