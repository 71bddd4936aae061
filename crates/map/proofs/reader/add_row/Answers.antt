-- Each sign that comes off adds its byte.
use Rattle.std.proofs.Common.{rules, ◌≡◌, refl, [], ◌∷◌, arith}
use Rattle.std.specs.Iterator.Adapters.{enumerate_source}
use Rattle.std.specs.Str.{chars}
use Rattle.std.specs.Str.Iter.{chars_rest}
use Rattle.std.proofs.lemmas.Bool.Decides.{nat_tests}
use Rattle.std.proofs.lemmas.Grind.{common_steps}
use Rattle.std.proofs.lemmas.Str.{chars-nil, chars_from_encodes, chars_past_char, IsUtf8-past_char}
use Rattle.std.proofs.lemmas.Slice.{pushed}
use Rattle.map.proofs.reader.add_row.Goals as goal

pub returns-in_err-ok_or : goal.returns-in_err-ok_or
returns-in_err-ok_or c =
    let step = c.in-Some.ensures.steps in
    let e : chars (chars_rest (enumerate_source c.loop-column.column-iterator)) ≡ c.in-Some.sign ∷ chars (chars_rest (enumerate_source c.next.new.self)) = chars_past_char _ _ _ c.loop-column.invariant.2 step.0.0 in
    grind (arith, nat_tests, chars_from_encodes)

pub loop-column-preserved : goal.loop-column-preserved
loop-column-preserved c =
    let step = c.in-Some.ensures.steps in
    let e : chars (chars_rest (enumerate_source c.loop-column.column-iterator)) ≡ c.in-Some.sign ∷ chars (chars_rest (enumerate_source c.next.new.self)) = chars_past_char _ _ _ c.loop-column.invariant.2 step.0.0 in
    let longer = pushed (c.in_ok-ok_or.field-0 ∷ []) refl c.in_ok-push.was c.push.ensures.items in (
      search rules,
      search rules,
      IsUtf8-past_char _ _ _ c.loop-column.invariant.2 step.0.0,
      rw longer (grind arith),
    )

pub returns : goal.returns
returns c = grind (arith, common_steps, chars_from_encodes, chars-nil)
