-- Two numbers come off, and then nothing is left.
use Rattle.std.proofs.Common.{refl}
use Rattle.map.proofs.HeaderLemmas.{first, behind}
use Rattle.map.proofs.header.cell_line.Goals as goal

pub returns-in_err-column : goal.returns-in_err-column
returns-in_err-column c = rw (c.from_residual.ensures, ← first 16 _ _ _ c.in_err-column.ensures) refl

pub returns-in_err-row : goal.returns-in_err-row
returns-in_err-row c =
    let a = behind 16 _ _ _ c.in_ok-column.ensures in
    rw (c.from_residual-in_err-row.ensures, a.1, ← a.2, ← first 16 _ _ _ c.in_err-row.ensures) refl

pub returns : goal.returns
returns c =
    let a = behind 16 _ _ _ c.in_ok-column.ensures in
    let b = behind 16 _ _ _ c.in_ok-row.ensures in
    rw (a.1, ← a.2, b.1, ← b.2, c.in_ok-end.ensures.0 refl) refl
