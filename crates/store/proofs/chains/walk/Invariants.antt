use Rattle.std.proofs.Common.{◌≡◌, ◌%◌, ◌≤◌, length}
use Rattle.store.specs.Rows.{IsOnward}
use Rattle.store.proofs.chains.walk.Given as goal

abbrev pub invariant-loop-row : goal.invariant-loop-row
invariant-loop-row g l =
    record {
      fits : l.end ≤ l.n;
      onward : IsOnward g.N.NodeKind.key g.N.NodeKind.marks l.rows l.n l.node l.row l.end;
    }

abbrev pub decreases-loop-row : goal.decreases-loop-row
decreases-loop-row g l = l.end
