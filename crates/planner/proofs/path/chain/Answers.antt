use Rattle.std.proofs.Common.{◌≡◌, ◌+◌, length, length-append, arith}
use Rattle.planner.proofs.Paths.{length_path}
use Rattle.planner.proofs.path.chain.Goals as goal

pub replace-requires-clause-row : goal.replace-requires-clause-row
replace-requires-clause-row c =
    let n : length c.start_list.new.self.lists ≡ c.loop-row.row + 1 = grind (arith, length-append, length_path) in
    omega (arith, n)

pub replace-requires-clause-parent : goal.replace-requires-clause-parent
replace-requires-clause-parent c =
    let n : length c.start_list.new.self.lists ≡ c.loop-row.row + 1 = grind (arith, length-append, length_path) in
    omega (arith, n)
