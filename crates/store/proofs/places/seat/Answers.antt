use Rattle.store.proofs.Seats.{seated}
use Rattle.store.proofs.places.seat.Goals as goal

pub returns : goal.returns
returns g c = seated _ _ _ _ _ c.requires.i_in c.requires.row_in
