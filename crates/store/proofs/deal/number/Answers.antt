use Rattle.std.proofs.Common.{◌≡◌, map, get_or, ap, ◌∙◌, arith}
use Rattle.std.proofs.lemmas.List.{get_or_default}
use Rattle.std.proofs.lemmas.List.Edits.{map_over_more}
use Rattle.store.specs.Slots.{entry_of}
use Rattle.store.specs.Deal.{numbered}
use Rattle.store.proofs.Dealing.{entries_kept}
use Rattle.store.proofs.deal.number.Goals as goal

pub loop-i-preserved : goal.loop-i-preserved
loop-i-preserved g c =
    let xs = c.args.slots.now in
    let ys = c.loop-i.slots in
    let i = c.loop-i.i in
    let d = c.index-slots-i-in-loop-i.result in
    let kept : map entry_of ys ≡ map entry_of xs = ap (map entry_of) c.loop-i.invariant ∙ entries_kept xs i in
    let more = map_over_more (numbered (map entry_of xs)) xs ys i (get_or ys i d) (omega arith) c.loop-i.invariant in
    grind (arith, get_or_default)
