use Rattle.store.specs.Slots.{entries}
use Rattle.store.proofs.Seats.{length_entries}
use Rattle.store.proofs.Dealing.{dealt_kept, dealt_is, dealt_sound, dealt_queue}
use Rattle.store.proofs.places.Places.deal.Goals as goal

pub invariant_of-self : goal.invariant_of-self
invariant_of-self g c = dealt_kept _ _ _ c.self.invariant.fits c.deal.ensures.entries c.deal.ensures.places c.self.invariant

pub returns-clause-sound : goal.returns-clause-sound
returns-clause-sound g c =
    let xs = c.self.inside.slots.now in
    let n = c.self.inside.len in
    rw (dealt_is xs _ n c.self.invariant.fits c.deal.ensures.entries c.deal.ensures.places)
    (rw (length_entries xs n c.self.invariant.fits) at (dealt_sound (entries xs n) g.C.CostKind.weight (rw (← c.self.view_is) at c.requires.apart) (rw (← c.self.view_is) at c.requires.heaped)))

pub returns-clause-queue : goal.returns-clause-queue
returns-clause-queue g c =
    let xs = c.self.inside.slots.now in
    let n = c.self.inside.len in
    rw (dealt_is xs _ n c.self.invariant.fits c.deal.ensures.entries c.deal.ensures.places, ← c.self.view_is) (dealt_queue (entries xs n))
