use Rattle.std.proofs.Common.{◌≡◌}
use Rattle.links.specs.declared.parents.Keeps.TheVariants.{One}
use Rattle.planner.specs.Paths.{path_parents}
use Rattle.planner.proofs.path.chain.Given as goal

-- so many rows of the path have their parents
abbrev pub invariant-loop-row : goal.invariant-loop-row
invariant-loop-row l =
    (l.parents.lists ≡ path_parents l.row) × (l.parents.room ≡ l.initial.parents.room) × (l.parents.rows ≡ l.initial.parents.rows) × (l.parents.keeps ≡ One)
