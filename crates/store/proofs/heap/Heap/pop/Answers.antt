use Rattle.store.proofs.heap.Heap.pop.Goals as goal

pub invariant_of-self : goal.invariant_of-self
invariant_of-self g c = c.take_first.ensures.sound c.self.inside.count c.self.invariant.counted
