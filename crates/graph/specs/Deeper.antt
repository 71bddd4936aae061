-- A fault that one graph more has passed up.
use Rattle.std.specs.Prelude.{◌+◌, min}
use Rattle.graph.specs.declared.fault.Fault.{Fault}

abbrev pub deeper : Fault → Fault
deeper f = record { rank = f.rank; depth = min 255 (f.depth + 1) }
