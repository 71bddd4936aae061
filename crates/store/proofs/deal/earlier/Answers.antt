use Rattle.std.proofs.Common.{rules, tests, ltb, ◌∙◌}
use Rattle.std.proofs.lemmas.Iterator.{YieldsList-from_slice}
use Rattle.std.proofs.lemmas.Iterator.Consumers.{YieldsList-from_filter, count_from_yields_List}
use Rattle.store.specs.declared.slots.Slot.{Slot}
use Rattle.store.proofs.Dealing.{count_earlier}
use Rattle.store.proofs.deal.earlier.Goals as goal

pub returns : goal.returns
returns g c =
    count_from_yields_List c.filter.result _ c.count.ensures.ran
    (YieldsList-from_filter _ (λ (s : Slot g.row.C.Denot). ltb s.entry.push c.args.a) (YieldsList-from_slice c.args.slots.now (cc)) c.filter.ensures.closure (λ x r q k. search (rules, tests)))
    ∙ count_earlier c.args.a c.args.slots.now
