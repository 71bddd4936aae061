use Rattle.std.proofs.Common.{◌≡◌, true, false, ltb, length, sym, ◌∙◌, arith}
use Rattle.std.proofs.lemmas.Bool.{cond-true, cond-false}
use Rattle.links.specs.Listings.{at}
use Rattle.listing.specs.Handing.{par}
use Rattle.listing.proofs.Ranks.{par_inside}
use Rattle.listing.proofs.Walks.{measuring_none, measuring_out, measuring_some, turning_none, turning_out, turning_some, older, older_is}
use Rattle.listing.proofs.odometer.survey.Goals as goal
use Rattle.listing.proofs.odometer.survey.Goals.{then-has_older, else-has_older}

pub returns-in_default-clause-turn : goal.returns-in_default-clause-turn
returns-in_default-clause-turn c =
    let v = c.args.parents.now in
    turning_none (par v.lists) (at v.left) (length v.lists) (par_inside c.requires.falling) c.loop-step.step c.loop-step.row _ c.loop-step.best (omega arith) (cc) c.loop-step.invariant.0

pub loop-step-preserved : goal.loop-step-preserved
loop-step-preserved c =
    let v = c.args.parents.now in
    let e : c.if-has_older.best ≡ older (at v.left c.loop-step.row) c.loop-step.row c.loop-step.best =
    elim c.if-has_older.branch [
      | then-has_older w ↦ let h : ltb 1 (length (at v.left c.loop-step.row)) ≡ true = cc in w.best-is ∙ sym (cond-true _ _ _ h) ∙ older_is (at v.left c.loop-step.row) c.loop-step.row c.loop-step.best
      | else-has_older w ↦ let h : ltb 1 (length (at v.left c.loop-step.row)) ≡ false = cc in w.best-is ∙ sym (cond-false _ _ _ h) ∙ older_is (at v.left c.loop-step.row) c.loop-step.row c.loop-step.best
    ] in (
      rw e (turning_some (par v.lists) (at v.left) (length v.lists) (par_inside c.requires.falling) c.loop-step.step c.loop-step.row _ c.loop-step.best c.in-Some.parent (omega arith) (cc) c.loop-step.invariant.0),
      measuring_some (par v.lists) (at v.left) (length v.lists) (par_inside c.requires.falling) c.loop-step.step c.loop-step.row _ c.in-Some.parent (omega arith) (cc) c.loop-step.invariant.1,
    )

pub returns-clause-turn : goal.returns-clause-turn
returns-clause-turn c =
    let v = c.args.parents.now in
    turning_out (par v.lists) (at v.left) (length v.lists) (par_inside c.requires.falling) c.loop-step.step c.loop-step.row _ c.loop-step.best (omega arith) c.loop-step.invariant.0

pub returns-in_default-clause-count : goal.returns-in_default-clause-count
returns-in_default-clause-count c =
    let v = c.args.parents.now in
    measuring_none (par v.lists) (at v.left) (length v.lists) (par_inside c.requires.falling) c.loop-step.step c.loop-step.row _ (omega arith) (cc) c.loop-step.invariant.1

pub returns-clause-count : goal.returns-clause-count
returns-clause-count c =
    let v = c.args.parents.now in
    c.len-all.ensures.count ∙ measuring_out (par v.lists) (at v.left) (length v.lists) (par_inside c.requires.falling) c.loop-step.step c.loop-step.row _ (omega arith) c.loop-step.invariant.1
