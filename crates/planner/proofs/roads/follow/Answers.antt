use Rattle.std.proofs.Common.{◌≡◌, suc, ◌+◌, ◌-◌, arith}
use Rattle.std.proofs.lemmas.Grind.{common_steps}
use Rattle.search.specs.Roads.{along}
use Rattle.planner.proofs.roads.follow.Goals as goal

pub loop-rank-preserved : goal.loop-rank-preserved
unfolding along
loop-rank-preserved g c =
    let n : c.road_count-count.result - c.loop-rank.rank ≡ suc (c.road_count-count.result - (c.loop-rank.rank + 1)) = omega arith in
    grind arith

pub returns-in_err-relax-clause-answer : goal.returns-in_err-relax-clause-answer
unfolding along
returns-in_err-relax-clause-answer g c =
    let n : c.road_count-count.result - c.loop-rank.rank ≡ suc (c.road_count-count.result - (c.loop-rank.rank + 1)) = omega arith in
    grind (arith, common_steps)
