use Rattle.std.proofs.Common.{take, Ok}
use Rattle.std.specs.Fmt.{DisplaysOnOk}
use Rattle.routes.specs.Routes.{printed}
use Rattle.routes.proofs.route.RouteDisplay.fmt.Given as goal

-- the nodes before this one are printed
abbrev pub invariant-loop-node : goal.invariant-loop-node
invariant-loop-node g l = DisplaysOnOk g.W.Write.write_str_gives l.initial.f (Ok (tt {0})) (printed g.N.Display.output (take l.node-index l.node-items)) l.f
