use Rattle.std.proofs.Common.{◌≡◌, suc, ◌+◌, ◌-◌, arith}
use Rattle.search.specs.Scan.{scan}
use Rattle.deepening.proofs.path.next_road.Goals as goal

pub loop-rank-preserved : goal.loop-rank-preserved
unfolding scan
loop-rank-preserved g c =
    let n : c.road_count-count.result - c.loop-rank.rank ≡ suc (c.road_count-count.result - (c.loop-rank.rank + 1)) = omega arith in
    grind arith

pub returns-in_err-best : goal.returns-in_err-best
unfolding scan
returns-in_err-best g c =
    let n : c.road_count-count.result - c.loop-rank.rank ≡ suc (c.road_count-count.result - (c.loop-rank.rank + 1)) = omega arith in
    grind arith
