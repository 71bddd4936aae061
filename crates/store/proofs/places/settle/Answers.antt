use Rattle.store.proofs.Holes.{settled}
use Rattle.store.proofs.places.settle.Goals as goal

pub returns : goal.returns
returns g c =
    let r = c.rise-h.ensures in
    settled g.C.CostKind.weight c.requires.fits c.requires.few r.long r.inside c.requires.row_in r.hole r.heap r.same c.seat.ensures
