use Rattle.std.proofs.Common.{arith}
use Rattle.store.proofs.Turns.{length_queue}
use Rattle.store.proofs.heap.Heap.push.Goals as goal
use Rattle.store.proofs.heap.Heap.push.Goals.{then-is_spent, else-is_spent}

pub returns-clause-next : goal.returns-clause-next
returns-clause-next g c =
    let l = length_queue c.self.inside.places.entries in
    rw (← c.self.view_is)
    (elim c.if-is_spent.branch [
      | then-is_spent w ↦ let t = w.if-is_spent.true in let o = c.is_spent.ensures in let n = w.deal-self-inside.ensures.count in let s = w.self-inside-is in grind arith
      | else-is_spent w ↦ let t = w.if-is_spent.false in let o = c.is_spent.ensures in let s = w.self-inside-is in grind arith
    ])
