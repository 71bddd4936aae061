-- What the signs that are left add to the bytes so far is what all signs add.
use Rattle.std.proofs.Common.{◌≡◌}
use Rattle.std.specs.Iterator.Adapters.{enumerate_source, enumerate_count}
use Rattle.std.specs.Str.{IsUtf8, chars, trim_end}
use Rattle.std.specs.Str.Iter.{chars_rest}
use Rattle.map.specs.Rows.{signs_read}
use Rattle.map.proofs.reader.add_row.Given as goal

abbrev pub invariant-loop-column : goal.invariant-loop-column
invariant-loop-column l =
    (goal.iterator-loop-column).can_next l.column-iterator ×
    (goal.iterator-loop-column).is_finite l.column-iterator ×
    IsUtf8 (chars_rest (enumerate_source l.column-iterator)) ×
    (signs_read l.map.items (enumerate_count l.column-iterator) (chars (chars_rest (enumerate_source l.column-iterator)))
    ≡ signs_read l.fn.map.items 0 (chars (trim_end l.fn.line)))
