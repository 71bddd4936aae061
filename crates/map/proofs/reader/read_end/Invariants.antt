-- The lines so far were blank.
use Rattle.std.proofs.Common.{◌≡◌}
use Rattle.map.specs.Readings.{end_read}
use Rattle.map.proofs.reader.read_end.Given as goal

abbrev pub invariant-loop-number : goal.invariant-loop-number
invariant-loop-number l =
    end_read l.rows l.number-iterator.taken l.number-iterator.lines ≡ end_read l.rows l.fn.lines.taken l.fn.lines.lines
