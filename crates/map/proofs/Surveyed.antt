-- A field under fences and tolls is a pile over a graph whose guess is true.
use Rattle.std.proofs.Common.{ℕ, Some, None, Ok, Err, Option, Result}
use Rattle.kinds.specs.Millis.{millis_kind}
use Rattle.kinds.specs.declared.cell.Cell.{Cell}
use Rattle.kinds.specs.declared.millis.Millis.{Millis}
use Rattle.graph.specs.declared.layers.Layers.{Layers}
use Rattle.graph.proofs.LayersPile.{laid_pile}
use Rattle.field.specs.declared.grid.Field.{Field}
use Rattle.field.specs.Means.{field_meaning, field_guess}
use Rattle.field.specs.Laws.{few_columns}
use Rattle.field.proofs.Ahead.{guess_true}
use Rattle.search.specs.declared.method.Method.{Method}
use Rattle.search.specs.declared.method.Method.TheVariants.{Dijkstra, Astar, AstarBag, Fringe, Idastar}
use Rattle.search.specs.Laws.{Founded, Guided}
use Rattle.search.specs.Taken.{FoundRoute, Cheapest}
use Rattle.routes.specs.declared.priced_route.PricedRoute.{PricedRoute}
use Rattle.routes.specs.declared.refusal.RouteRefusal.{RouteRefusal}
use Rattle.routes.specs.Came.{came_of, Answered}
use Rattle.map.specs.Ground.{meant, guessed, key_of, weight_of}

founded : (pile : Layers Field Millis) → Founded millis_kind (meant pile) (guessed pile)
founded pile =
    let f = pile.bottom in
    record {
      bottom = field_meaning f.layout f.map.now;
      bottom_guess = field_guess f.layout f.map.now;
      pile = laid_pile millis_kind weight_of pile.layers.now _ _;
      truth = guess_true f.layout f.map.now (few_columns f.layout f.range);
    }

guided : (m : Method) (pile : Layers Field Millis) → Guided millis_kind m (meant pile) (guessed pile)
guided Dijkstra pile = tt
guided Astar pile = founded pile
guided AstarBag pile = founded pile
guided Fringe pile = founded pile
guided Idastar pile = founded pile

-- so that what is found there is a cheapest route
pub cheapest_route : (m : Method) (pile : Layers Field Millis) (start : ℕ) (result : Result (Option (PricedRoute Cell Millis)) RouteRefusal) → Answered (FoundRoute millis_kind m (meant pile) (guessed pile) start) (meant pile) start (came_of key_of weight_of result) → Answered (Cheapest (meant pile) start) (meant pile) start (came_of key_of weight_of result)
cheapest_route m pile start (Ok (Some found)) a = a.cheapest (guided m pile)
cheapest_route m pile start (Ok None) a = a
cheapest_route m pile start (Err e) a = a
