use Rattle.std.proofs.Common.{arith, rules}
use Rattle.std.proofs.lemmas.List.{get_or_default}
use Rattle.std.proofs.lemmas.List.Edits.{map_over_more}
use Rattle.store.specs.Deal.{relabelled}
use Rattle.store.proofs.deal.relabel.Goals as goal

pub loop-slot-preserved : goal.loop-slot-preserved
loop-slot-preserved g c = search (rules, arith, map_over_more (relabelled {C = g.row.C.Denot}), get_or_default)
