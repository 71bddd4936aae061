-- Which searches are asked for.
use Rattle.std.specs.Prelude.{◌==◌, Bool, true, false, ◌||◌, List, length}
use Rattle.std.specs.List.{list_any}
use Rattle.search.specs.declared.method.Method.{Method}
use Rattle.search.specs.declared.method.Method.TheVariants.{Dijkstra, Astar, AstarBag, Fringe, Idastar}

-- a search is asked for: it is one of these, or there are none
abbrev pub is_same : Method → Method → Bool
is_same Dijkstra Dijkstra = true
is_same Astar Astar = true
is_same AstarBag AstarBag = true
is_same Fringe Fringe = true
is_same Idastar Idastar = true
is_same _ _ = false

abbrev pub is_wanted : List Method → Method → Bool
is_wanted methods method = length methods == 0 || list_any (λ other. is_same other method) methods
