-- At the end no word is left.
use Rattle.std.proofs.Common.{refl, sym, ◌∙◌}
use Rattle.map.proofs.HeaderLemmas.{is_asked}
use Rattle.map.proofs.header.zones_line.Goals as goal

pub returns-then-not-contains : goal.returns-then-not-contains
returns-then-not-contains c =
    rw (← c.loop-word.invariant.2, c.in-None.ensures.steps.0, sym (is_asked c.loop-word.zones) ∙ sym c.contains.ensures.value ∙ c.if-not-contains.true) refl

pub returns : goal.returns
returns c =
    rw (← c.loop-word.invariant.2, c.in-None.ensures.steps.0, sym (is_asked c.loop-word.zones) ∙ sym c.contains.ensures.value ∙ c.if-not-contains.false) refl
