use Rattle.std.proofs.Common.{◌≡◌, ◌++◌}
use Rattle.std.specs.List.{flat_map, range_with_len}
use Rattle.trials.specs.Drawn.{station_bytes}
use Rattle.trials.proofs.drawing.Drawing.put_stations.Given as goal

abbrev pub invariant-loop-station : goal.invariant-loop-station
invariant-loop-station l = l.bytes.items ≡ l.initial.bytes.items ++ flat_map (station_bytes l.self) (range_with_len 0 l.station)
