use Rattle.std.proofs.Common.{◌≡◌, ◌++◌, map, take, drop}
use Rattle.store.specs.Slots.{entry_of}
use Rattle.store.specs.Deal.{numbered}
use Rattle.store.proofs.deal.number.Given as goal

abbrev pub invariant-loop-i : goal.invariant-loop-i
invariant-loop-i g l =
    l.slots ≡ map (numbered (map entry_of l.initial.slots)) (take l.i l.initial.slots) ++ drop l.i l.initial.slots
