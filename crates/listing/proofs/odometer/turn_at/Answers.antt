use Rattle.std.proofs.Common.{◌≡◌, [], set, drop, Some, arith}
use Rattle.std.specs.Prelude.{slice_get}
use Rattle.std.proofs.lemmas.List.{get_or-set_same}
use Rattle.links.specs.Listings.{at}
use Rattle.listing.specs.Handing.{par}
use Rattle.listing.proofs.Ranks.{par_inside}
use Rattle.listing.proofs.Walks.{passed_in}
use Rattle.listing.proofs.Latest.{falling_same}
use Rattle.listing.proofs.odometer.turn_at.Goals as goal

pub begin_at-requires-clause-inside : goal.begin_at-requires-clause-inside
begin_at-requires-clause-inside c =
    let v = c.args.parents.now in
    let s : at (set v.left c.args.row (drop 1 (at v.left c.args.row))) c.args.row ≡ drop 1 (at v.left c.args.row) = get_or-set_same v.left c.args.row _ [] (omega (arith, c.requires.many, c.requires.inside)) in
    let e : Some c.in-Some.parent ≡ slice_get (drop 1 (at v.left c.args.row)) 0 = cc in
    rw c.pass.ensures.lists ((par_inside c.requires.falling) c.args.row c.in-Some.parent (passed_in (par v.lists c.args.row) (at v.left c.args.row) c.in-Some.parent (omega (arith, c.requires.older)) c.requires.end e))

pub begin_at-requires-clause-falling : goal.begin_at-requires-clause-falling
begin_at-requires-clause-falling c = falling_same c.pass.ensures.lists c.requires.falling
