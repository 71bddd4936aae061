use mathlib.Core.List.{map-map}
use Rattle.store.proofs.deal.deal.Goals as goal

pub returns : goal.returns
returns g c = rw (c.relabel.ensures, c.number.ensures) record { entries = simp map-map; places = simp map-map }
