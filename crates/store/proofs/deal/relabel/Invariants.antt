use Rattle.std.proofs.Common.{◌≡◌, ◌++◌, map, take, drop}
use Rattle.store.specs.Deal.{relabelled}
use Rattle.store.proofs.deal.relabel.Given as goal

abbrev pub invariant-loop-slot : goal.invariant-loop-slot
invariant-loop-slot g l =
    l.slot-items ≡ map relabelled (take l.slot-index l.initial.slot-items) ++ drop l.slot-index l.initial.slot-items
