-- The searches, and their names.
use Rattle.std.specs.Prelude.{ℕ, List, [], ◌∷◌, codes}
use Rattle.search.specs.declared.method.Method.{Method}
use Rattle.search.specs.declared.method.Method.TheVariants.{Dijkstra, Astar, AstarBag, Fringe, Idastar}

-- all of them, in their order
abbrev pub methods : List Method
methods = Dijkstra ∷ Astar ∷ AstarBag ∷ Fringe ∷ Idastar ∷ []

abbrev pub name_of : Method → List ℕ
name_of Dijkstra = codes "dijkstra"
name_of Astar = codes "astar"
name_of AstarBag = codes "astar_bag"
name_of Fringe = codes "fringe"
name_of Idastar = codes "idastar"
