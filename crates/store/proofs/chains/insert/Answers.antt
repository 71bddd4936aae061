use Rattle.std.proofs.Common.{◌<◌, length, get_or, ap, arith}
use Rattle.std.proofs.lemmas.List.{get_or_default}
use Rattle.store.specs.declared.rows.Row.{Row}
use Rattle.store.proofs.Buckets.{grown, linked_grown, single_grown, found_grown}
use Rattle.store.proofs.chains.insert.Goals as goal

pub returns : goal.returns
returns g c =
    let xs = c.args.rows.now in
    let b = c.bucket_of-bucket.result in
    let lb : b < length xs = omega (arith, c.requires.fits, c.bucket_of-bucket.ensures) in
    let gr = grown xs c.args.n b c.args.node c.args.value (get_or xs b c.index-rows-bucket.result).head c.index-rows-n.result c.index-rows-bucket-2.result c.requires.fits lb in
    record {
      linked = linked_grown gr g.N.NodeKind.marks (cc) (λ d. ap (λ (r : Row g.row.N.Denot g.row.V.Denot). r.head) (get_or_default xs b c.index-rows-bucket.result d lb)) c.requires.linked;
      single = single_grown gr g.N.NodeKind.key c.requires.single c.requires.fresh;
      found = found_grown gr c.index-rows-n.result c.requires.fits;
    }
