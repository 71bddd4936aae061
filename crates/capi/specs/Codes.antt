-- The numbers by which a caller names a search, and the codes by which it is told of a failure.
use Rattle.std.specs.Prelude.{ℕ, cond, Some, None, Ok, Err, Option, Result, ◌==◌}
use Rattle.chart.specs.Refusal.{number_of}
use Rattle.kinds.specs.declared.trims.Trims.{Trims}
use Rattle.planner.specs.Making.{make_number}
use Rattle.search.specs.declared.method.Method.{Method}
use Rattle.search.specs.declared.method.Method.TheVariants.{Dijkstra, Astar, AstarBag, Fringe, Idastar}
use Rattle.routes.specs.declared.taken.Taken.{Taken}
use Rattle.routes.specs.Refusals.{route_number}
use Rattle.capi.specs.declared.told.Told.{Told}
use Rattle.capi.specs.declared.failure.Failure.{Failure}
use Rattle.capi.specs.declared.failure.Failure.TheVariants.{NoMethod, NoMemory, NoRoute, Chart, Planner, Route}

-- 0 is dijkstra, 1 astar, 2 astar_bag, 3 fringe and 4 idastar
abbrev pub method_numbered : ℕ → Option Method
method_numbered n =
    cond (n == 0) (Some Dijkstra)
    (cond (n == 1) (Some Astar) (cond (n == 2) (Some AstarBag) (cond (n == 3) (Some Fringe) (cond (n == 4) (Some Idastar) None))))

-- a code, and nothing else
abbrev pub bare_code : ℕ → Told
bare_code n = record { code = n; trims = 0; millis = 0; length = 0 }

-- the code of each failure
abbrev pub code_of : Failure → ℕ
code_of NoRoute = 100
code_of NoMethod = 101
code_of NoMemory = 102
code_of (Chart r) = number_of r
code_of (Planner r) = make_number r
code_of (Route r) = route_number r

-- what is told of a search: its route, or a code
abbrev pub told_of : Result (Taken Trims) Failure → Told
told_of (Ok r) = record { code = 0; trims = r.cost.trims; millis = r.cost.millis; length = r.length }
told_of (Err e) = bare_code (code_of e)
