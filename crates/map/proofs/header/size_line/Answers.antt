-- Three numbers come off, and then nothing is left.
use Rattle.std.proofs.Common.{refl}
use Rattle.map.proofs.HeaderLemmas.{first, behind}
use Rattle.map.proofs.header.size_line.Goals as goal

pub returns-in_err-columns : goal.returns-in_err-columns
returns-in_err-columns c = rw (c.from_residual.ensures, ← first 16 _ _ _ c.in_err-columns.ensures) refl

pub returns-in_err-rows : goal.returns-in_err-rows
returns-in_err-rows c =
    let a = behind 16 _ _ _ c.in_ok-columns.ensures in
    rw (c.from_residual-in_err-rows.ensures, a.1, ← a.2, ← first 16 _ _ _ c.in_err-rows.ensures) refl

pub returns-in_err-step : goal.returns-in_err-step
returns-in_err-step c =
    let a = behind 16 _ _ _ c.in_ok-columns.ensures in
    let b = behind 16 _ _ _ c.in_ok-rows.ensures in
    rw (c.from_residual-in_err-step.ensures, a.1, ← a.2, b.1, ← b.2, ← first 32 _ _ _ c.in_err-step.ensures) refl

pub returns : goal.returns
returns c =
    let a = behind 16 _ _ _ c.in_ok-columns.ensures in
    let b = behind 16 _ _ _ c.in_ok-rows.ensures in
    let d = behind 32 _ _ _ c.in_ok-step.ensures in
    rw (a.1, ← a.2, b.1, ← b.2, d.1, ← d.2, c.in_ok-end.ensures.0 refl) refl
