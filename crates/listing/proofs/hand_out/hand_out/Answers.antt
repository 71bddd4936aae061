use Rattle.std.proofs.Common.{ℕ, List, ◌∷◌, sym, ap, ◌∙◌, arith}
use Rattle.listing.specs.Handing.{rows_to_come, key_at, keys_of, route, route_from, turn_from}
use Rattle.listing.proofs.Latest.{split, some_there, no_latest, none_come, comes_first}
use Rattle.listing.proofs.Giving.{gives_none, leaves_none, gives_short, leaves_short, gives_full, leaves_full}
use Rattle.listing.proofs.hand_out.hand_out.Goals as goal

pub returns-in_default-clause-gives : goal.returns-in_default-clause-gives
returns-in_default-clause-gives g c =
    let v = c.args.parents.now in
    let xs = c.args.sinks.now.sinks in
    gives_none g.N.NodeKind.key (key_at (keys_of g.N.NodeKind.key c.args.rows.now)) c.args.out.now (rows_to_come v.lists v.left xs) (none_come v.lists v.left xs (no_latest xs (cc)))

pub returns-in_default-clause-leaves : goal.returns-in_default-clause-leaves
returns-in_default-clause-leaves g c =
    let v = c.args.parents.now in
    let xs = c.args.sinks.now.sinks in
    leaves_none g.N.NodeKind.key (key_at (keys_of g.N.NodeKind.key c.args.rows.now)) c.args.out.now (rows_to_come v.lists v.left xs) (none_come v.lists v.left xs (no_latest xs (cc)))

pub survey-needed-requires-clause-inside : goal.survey-needed-requires-clause-inside
survey-needed-requires-clause-inside g c = c.requires.ready.inside c.in-Some.sink (split c.args.sinks.now.sinks c.in-Some.sink (cc)).among

pub write_back-requires-clause-inside : goal.write_back-requires-clause-inside
write_back-requires-clause-inside g c = c.requires.ready.inside c.in-Some.sink (split c.args.sinks.now.sinks c.in-Some.sink (cc)).among

pub returns-then-out-needed-clause-gives : goal.returns-then-out-needed-clause-gives
returns-then-out-needed-clause-gives g c =
    let v = c.args.parents.now in
    let xs = c.args.sinks.now.sinks in
    let o = split xs c.in-Some.sink (cc) in
    let f = comes_first v c.survey-needed.ensures.many xs c.requires.ready c.in-Some.sink o.is in
    gives_short g.N.NodeKind.key (key_at (keys_of g.N.NodeKind.key c.args.rows.now)) c.args.out.now (rows_to_come v.lists v.left xs) (route v.lists v.left c.in-Some.sink) f.0 f.1 c.survey-needed.result.0 c.survey-needed.ensures.count c.if-out-needed.true

pub returns-then-out-needed-clause-leaves : goal.returns-then-out-needed-clause-leaves
returns-then-out-needed-clause-leaves g c =
    let v = c.args.parents.now in
    let xs = c.args.sinks.now.sinks in
    let o = split xs c.in-Some.sink (cc) in
    let f = comes_first v c.survey-needed.ensures.many xs c.requires.ready c.in-Some.sink o.is in
    leaves_short g.N.NodeKind.key (key_at (keys_of g.N.NodeKind.key c.args.rows.now)) c.args.out.now (rows_to_come v.lists v.left xs) (route v.lists v.left c.in-Some.sink) f.0 f.1 c.survey-needed.result.0 c.survey-needed.ensures.count c.if-out-needed.true

pub advance-requires-clause-some : goal.advance-requires-clause-some
advance-requires-clause-some g c = some_there c.args.sinks.now.sinks c.in-Some.sink (cc)

pub advance-requires-clause-turns : goal.advance-requires-clause-turns
advance-requires-clause-turns g c =
    let v = c.args.parents.now in
    let o = split c.args.sinks.now.sinks c.in-Some.sink (cc) in
    c.survey-needed.ensures.turn ∙ sym (ap (turn_from v.lists v.left) o.is)

pub returns-clause-gives : goal.returns-clause-gives
returns-clause-gives g c =
    let v = c.args.parents.now in
    let xs = c.args.sinks.now.sinks in
    let o = split xs c.in-Some.sink (cc) in
    let e = c.advance.ensures.come ∙ ap (λ (x : List ℕ). x ∷ rows_to_come c.advance.new.parents.lists c.advance.new.parents.left c.advance.new.sinks.sinks) (ap (route_from v.lists v.left) o.is) in
    gives_full g.N.NodeKind.key (key_at (keys_of g.N.NodeKind.key c.args.rows.now)) c.args.out.now (rows_to_come v.lists v.left xs) (route v.lists v.left c.in-Some.sink) _ e c.survey-needed.result.0 c.survey-needed.ensures.count (omega arith) c.write_back.new.out c.write_back.ensures

pub returns-clause-leaves : goal.returns-clause-leaves
returns-clause-leaves g c =
    let v = c.args.parents.now in
    let xs = c.args.sinks.now.sinks in
    let o = split xs c.in-Some.sink (cc) in
    let e = c.advance.ensures.come ∙ ap (λ (x : List ℕ). x ∷ rows_to_come c.advance.new.parents.lists c.advance.new.parents.left c.advance.new.sinks.sinks) (ap (route_from v.lists v.left) o.is) in
    leaves_full g.N.NodeKind.key (key_at (keys_of g.N.NodeKind.key c.args.rows.now)) c.args.out.now (rows_to_come v.lists v.left xs) (route v.lists v.left c.in-Some.sink) _ e c.survey-needed.result.0 c.survey-needed.ensures.count (omega arith)
