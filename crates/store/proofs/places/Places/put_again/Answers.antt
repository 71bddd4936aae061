use Rattle.store.proofs.Turns.{again_at}
use Rattle.store.proofs.places.Places.put_again.Goals as goal

pub replace-requires : goal.replace-requires
replace-requires g c =
    let a = again_at g.C.CostKind.weight c.args.place c.args.entry c.self.view_is c.self.invariant c.requires.row_in c.requires.sound c.requires.older in
    record { inside = a.inside; fits = c.self.invariant.fits; few = c.self.invariant.few; row_in = a.row_in; hole = a.hole; heap = a.heap }

pub invariant_of-self : goal.invariant_of-self
invariant_of-self g c = c.replace.ensures.kept

pub returns : goal.returns
returns g c =
    let a = again_at g.C.CostKind.weight c.args.place c.args.entry c.self.view_is c.self.invariant c.requires.row_in c.requires.sound c.requires.older in
    let q = a.after _ c.replace.ensures.same in
    record { sound = record { apart = q.apart; counted = q.counted; heaped = c.replace.ensures.heap }; queue = q.queued; rows = rw (← c.self.view_is) c.replace.ensures.long }
