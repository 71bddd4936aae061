use Rattle.listing.proofs.Latest.{split, no_latest, none_ready, begins}
use Rattle.listing.proofs.hand_out.begin_latest.Goals as goal

pub begin_at-requires-clause-inside : goal.begin_at-requires-clause-inside
begin_at-requires-clause-inside c = c.requires.inside c.in-Some.sink (split c.args.sinks.now.sinks c.in-Some.sink (cc)).among

pub returns-in-Some-clause-ready : goal.returns-in-Some-clause-ready
returns-in-Some-clause-ready c =
    rw c.begin_at.ensures.begun (begins c.args.parents.now c.begin_at.ensures.many c.requires.falling c.args.sinks.now.sinks c.requires.inside c.in-Some.sink (cc)).0

pub returns-in-Some-clause-come : goal.returns-in-Some-clause-come
returns-in-Some-clause-come c =
    rw c.begin_at.ensures.begun (begins c.args.parents.now c.begin_at.ensures.many c.requires.falling c.args.sinks.now.sinks c.requires.inside c.in-Some.sink (cc)).1

pub returns-in_default-clause-come : goal.returns-in_default-clause-come
returns-in_default-clause-come c =
    let v = c.args.parents.now in
    (none_ready v.lists v.left c.args.sinks.now.sinks c.requires.falling c.requires.inside (no_latest c.args.sinks.now.sinks (cc))).1
