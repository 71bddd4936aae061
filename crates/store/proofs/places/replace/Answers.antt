use Rattle.std.proofs.Common.{arith}
use Rattle.store.proofs.Seats.{at_any}
use Rattle.store.proofs.Holes.{loose_again, over_again}
use Rattle.store.proofs.places.replace.Goals as goal

pub settle-requires-clause-loose : goal.settle-requires-clause-loose
settle-requires-clause-loose g c = loose_again g.C.CostKind.weight c.args.slots.now c.args.len c.args.place c.args.entry c.requires.fits c.requires.heap

pub settle-requires-clause-over : goal.settle-requires-clause-over
settle-requires-clause-over g c =
    let own = at_any c.args.slots.now c.args.place c.index-slots-place.result (omega (arith, c.requires.inside, c.requires.fits)) in
    over_again g.C.CostKind.weight c.args.slots.now c.args.len c.args.place c.args.entry c.requires.fits c.requires.heap _ c.requires.inside own c.if-comes_before.ensures

pub sink-requires-clause-loose : goal.sink-requires-clause-loose
sink-requires-clause-loose g c = loose_again g.C.CostKind.weight c.args.slots.now c.args.len c.args.place c.args.entry c.requires.fits c.requires.heap
