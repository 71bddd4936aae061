use Rattle.std.proofs.Common.{◌≡◌, ℕ, List, length, set, reverse, get_or, [], ap, ◌∙◌, arith}
use Rattle.listing.specs.Handing.{par}
use Rattle.listing.proofs.Ranks.{par_inside}
use Rattle.listing.proofs.Walks.{beginning_none, beginning_out, beginning_some, same_parentage}
use Rattle.listing.proofs.odometer.begin_at.Goals as goal

pub returns-in_default-clause-begun : goal.returns-in_default-clause-begun
returns-in_default-clause-begun c =
    let v = c.args.parents.now in
    let i = c.loop-step.invariant in
    let e : c.rewind.new.self.left ≡ set c.loop-step.parents.left c.loop-step.row (par v.lists c.loop-step.row) = c.rewind.ensures.left ∙ ap (λ (l : List (List ℕ)). set c.loop-step.parents.left c.loop-step.row (reverse (get_or l c.loop-step.row []))) i.0 in
    let z = beginning_none (par v.lists) (length v.lists) (par_inside c.requires.falling) c.loop-step.step c.loop-step.row _ c.loop-step.parents.left (omega arith) (cc) i.4 in
    same_parentage _ _ (c.rewind.ensures.lists ∙ i.0) (e ∙ z) (c.rewind.ensures.room ∙ i.1) (c.rewind.ensures.rows ∙ i.2) (c.rewind.ensures.keeps ∙ i.3)

pub loop-step-preserved : goal.loop-step-preserved
loop-step-preserved c =
    let v = c.args.parents.now in
    let i = c.loop-step.invariant in
    let e : c.rewind.new.self.left ≡ set c.loop-step.parents.left c.loop-step.row (par v.lists c.loop-step.row) = c.rewind.ensures.left ∙ ap (λ (l : List (List ℕ)). set c.loop-step.parents.left c.loop-step.row (reverse (get_or l c.loop-step.row []))) i.0 in (
      c.rewind.ensures.lists ∙ i.0,
      c.rewind.ensures.room ∙ i.1,
      c.rewind.ensures.rows ∙ i.2,
      c.rewind.ensures.keeps ∙ i.3,
      rw e (beginning_some (par v.lists) (length v.lists) (par_inside c.requires.falling) c.loop-step.step c.loop-step.row _ c.loop-step.parents.left c.in-Some.parent (omega arith) (cc) i.4),
    )

pub returns-clause-begun : goal.returns-clause-begun
returns-clause-begun c =
    let v = c.args.parents.now in
    let i = c.loop-step.invariant in
    same_parentage _ _ i.0 (beginning_out (par v.lists) (length v.lists) (par_inside c.requires.falling) c.loop-step.step c.loop-step.row _ c.loop-step.parents.left (omega arith) i.4) i.1 i.2 i.3
