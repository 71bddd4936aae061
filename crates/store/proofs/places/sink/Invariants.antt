use Rattle.std.proofs.Common.{◌≡◌, ◌-◌, ◌<◌, length}
use Rattle.std.specs.List.Sorted.{IsPermutation}
use Rattle.store.specs.Slots.{filled, HasHole, IsHeapBut}
use Rattle.store.proofs.places.sink.Given as goal

abbrev pub invariant-loop-h : goal.invariant-loop-h
invariant-loop-h g l =
    record {
      inside : l.h < l.len;
      hole : HasHole l.slots l.len l.h l.entry;
      loose : IsHeapBut g.C.CostKind.weight (filled l.slots l.len l.h l.entry) l.h;
      same : IsPermutation (filled l.initial.slots l.len l.from l.entry) (filled l.slots l.len l.h l.entry);
      long : length l.slots ≡ length l.initial.slots;
    }

abbrev pub decreases-loop-h : goal.decreases-loop-h
decreases-loop-h g l = l.len - l.h
