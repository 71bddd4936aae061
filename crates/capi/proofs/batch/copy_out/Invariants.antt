use Rattle.std.proofs.Common.{◌≡◌, map, take}
use Rattle.capi.specs.Tells.{station_key}
use Rattle.capi.proofs.batch.copy_out.Given as goal

abbrev pub invariant-loop-rank : goal.invariant-loop-rank
invariant-loop-rank l = take l.rank l.out ≡ map station_key (take l.rank l.nodes)
