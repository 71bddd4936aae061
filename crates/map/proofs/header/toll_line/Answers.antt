-- A number comes off, and the zones are what is left.
use Rattle.std.proofs.Common.{refl}
use Rattle.map.proofs.HeaderLemmas.{first, behind}
use Rattle.map.proofs.header.toll_line.Goals as goal

pub returns-in_err-millis : goal.returns-in_err-millis
returns-in_err-millis c = rw (c.from_residual.ensures, ← first 32 _ _ _ c.in_err-millis.ensures) refl

pub returns : goal.returns
returns c =
    let a = behind 32 _ _ _ c.in_ok-millis.ensures in
    rw (a.1, ← a.2, ← c.in_ok-zones.ensures) refl
