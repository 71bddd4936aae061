use Rattle.std.proofs.Common.{◌∙◌, ap}
use Rattle.std.specs.Option.{is_some}
use Rattle.deepening.proofs.Nodes.{has_is}
use Rattle.deepening.proofs.path.is_on_path.Goals as goal

pub returns : goal.returns
returns g c = c.is_some.ensures ∙ ap is_some c.find.ensures ∙ has_is g.N.NodeKind.key g.C.CostKind.weight _ c.args.register.now.listed
