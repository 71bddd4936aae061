use Rattle.std.proofs.Common.{get_or, sym, ◌∙◌, arith}
use Rattle.std.proofs.lemmas.List.{get_or_default}
use Rattle.store.proofs.Buckets.{from_next}
use Rattle.store.proofs.chains.walk.Goals as goal

pub loop-row-preserved : goal.loop-row-preserved
loop-row-preserved g c =
    let v = c.loop-row.invariant in
    record {
      fits = omega (arith, v.fits, c.loop-row-test.true);
      onward = λ k d lk e.
          let i = v.onward k d lk e in
          let r = c.index-rows-row-in-loop-row.result in
          from_next g.N.NodeKind.key g.N.NodeKind.marks g.met.N.NodeKind.alike c.requires.linked c.requires.fits c.args.node c.loop-row.row k d r r (omega (arith, v.fits, c.loop-row-test.true))
          (sym (c.same_at.ensures r) ∙ c.if-same_at.false) e i.1 i.2;
    }

pub returns-then-bucket_of-bucket : goal.returns-then-bucket_of-bucket
returns-then-bucket_of-bucket g c k d lk e =
    let i = c.loop-row.invariant.onward k d lk e in
    let b = c.bucket_of-bucket.ensures in
    grind (arith, get_or_default)

pub returns : goal.returns
returns g c k d lk e =
    let i = c.loop-row.invariant.onward k d lk e in
    omega (arith, i.0, c.loop-row-test.false)
