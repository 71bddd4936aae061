-- The rows so far with those of the lines that are left are all rows.
use Rattle.std.proofs.Common.{◌≡◌, []}
use Rattle.map.specs.Readings.{rows_read}
use Rattle.map.proofs.reader.read_rows.Given as goal

abbrev pub invariant-loop-found : goal.invariant-loop-found
invariant-loop-found l =
    rows_read l.fn.layout l.found l.map.items l.lines.taken l.lines.lines ≡ rows_read l.fn.layout 0 [] l.fn.lines.taken l.fn.lines.lines
