use Rattle.std.proofs.Common.{◌≡◌, ℕ, ◌%◌, ◌<◌, length, get_or, sym, ap, ◌∙◌, arith}
use Rattle.std.proofs.lemmas.List.{get_or_default}
use Rattle.store.specs.declared.rows.Row.{Row}
use Rattle.store.proofs.Backs.{linked_back, single_back, found_back}
use Rattle.store.proofs.chains.remove.Goals as goal

pub returns-clause-linked : goal.returns-clause-linked
returns-clause-linked g c =
    let xs = c.args.rows.now in
    let b = c.bucket_of-bucket.result in
    let lb : b < length xs = omega (arith, c.requires.fits, c.bucket_of-bucket.ensures) in
    linked_back xs b _ c.index-rows-bucket.result lb g.N.NodeKind.marks c.args.n
    (λ d. let q = get_or_default xs c.args.n d c.index-rows-n.result c.requires.fits in let e = c.bucket_of-bucket.ensures in cc)
    (λ d. ap (λ (r : Row g.row.N.Denot g.row.V.Denot). r.next) (get_or_default xs c.args.n c.index-rows-n-2.result d c.requires.fits))
    c.requires.linked

pub returns-clause-single : goal.returns-clause-single
returns-clause-single g c =
    let xs = c.args.rows.now in
    let b = c.bucket_of-bucket.result in
    let lb : b < length xs = omega (arith, c.requires.fits, c.bucket_of-bucket.ensures) in
    single_back xs b _ c.index-rows-bucket.result lb g.N.NodeKind.key c.args.n c.requires.single

pub returns-clause-found : goal.returns-clause-found
returns-clause-found g c =
    let xs = c.args.rows.now in
    let b = c.bucket_of-bucket.result in
    let lb : b < length xs = omega (arith, c.requires.fits, c.bucket_of-bucket.ensures) in
    found_back xs b _ c.index-rows-bucket.result lb c.args.n (omega (arith, c.requires.fits))
