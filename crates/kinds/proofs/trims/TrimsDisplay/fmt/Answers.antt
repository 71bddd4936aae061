-- The two parts are written one after the other, in one width.
use Rattle.std.proofs.Common.{refl, ap, ◌∙◌}
use Rattle.std.proofs.Output.{has_written_styled_append, has_written_styled_of_eq}
use Rattle.std.specs.Fmt.{styled_decimal}
use Rattle.kinds.proofs.trims.TrimsDisplay.fmt.Goals as goal

pub returns-clause-styled : goal.returns-clause-styled
returns-clause-styled g c flush ok =
    let first = c.in_ok-fmt.ensures.styled flush refl in
    let blank = c.in_ok-write_str.ensures.styled first.flush refl in
    let second = c.fmt-2.ensures.styled blank.flush ok in
    let one_width = ap (λ s. styled_decimal s c.args.self.now.millis) (blank.spec ∙ first.spec) in
    has_written_styled_append _ _ _ _ _ _ (has_written_styled_append _ _ _ _ _ _ first blank)
    (has_written_styled_of_eq _ _ _ _ _ one_width second)
