-- A zone is one character with a byte below 64.
use Rattle.std.proofs.Common.{sym, ◌∙◌, ap}
use Rattle.std.specs.Option.{is_some}
use Rattle.std.proofs.lemmas.Str.{chars_past_char}
use Rattle.map.proofs.HeaderLemmas.{no_zone_above, no_zone_before, one_zone}
use Rattle.map.proofs.header.zone_of.Goals as goal
use Rattle.map.proofs.header.zone_of.Goals.{then-not-is_zone-via-then-not-is_zone, then-not-is_zone-via-else-not-is_zone+then-is_some}

pub returns-then-not-is_zone-clause-zone : goal.returns-then-not-is_zone-clause-zone
returns-then-not-is_zone-clause-zone c =
    rw (chars_past_char _ _ _ c.utf8.word (sym c.chars-signs.ensures.rest ∙ c.in_ok-next.ensures.steps.0))
    (elim c.then-not-is_zone.branch [
      | then-not-is_zone-via-then-not-is_zone w ↦ no_zone_above _ _ _ c.in_ok-byte.ensures.value (sym c.is_zone.ensures ∙ w.if-not-is_zone.true)
      | then-not-is_zone-via-else-not-is_zone+then-is_some w ↦ no_zone_before _ _ _ c.in_ok-byte.ensures.value (ap is_some (sym w.next-else-not-is_zone.ensures.steps.2) ∙ sym w.is_some.ensures ∙ w.if-is_some.true)
    ])

pub returns-clause-zone : goal.returns-clause-zone
returns-clause-zone c =
    rw (chars_past_char _ _ _ c.utf8.word (sym c.chars-signs.ensures.rest ∙ c.in_ok-next.ensures.steps.0))
    (one_zone _ _ _ c.in_ok-byte.ensures.value (sym c.is_zone.ensures ∙ c.if-not-is_zone.false)
    (ap is_some (sym c.next-else-not-is_zone.ensures.steps.2) ∙ sym c.is_some.ensures ∙ c.if-is_some.false))
