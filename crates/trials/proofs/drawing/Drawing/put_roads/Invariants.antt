use Rattle.std.proofs.Common.{◌≡◌, ◌++◌, take}
use Rattle.std.specs.List.{flat_map}
use Rattle.trials.specs.Drawn.{road_bytes}
use Rattle.trials.proofs.drawing.Drawing.put_roads.Given as goal

abbrev pub invariant-loop-road : goal.invariant-loop-road
invariant-loop-road l = l.bytes.items ≡ l.initial.bytes.items ++ flat_map road_bytes (take l.road-index l.road-items)
