use Rattle.std.proofs.Common.{ℕ, List, ◌∷◌, length, reverse, sym, ap, ◌∙◌}
use Rattle.listing.specs.Routes.{listing}
use Rattle.listing.specs.Handing.{par, next_route, turn_from}
use Rattle.listing.proofs.Latest.{split_last, older, goes_on, goes_over}
use Rattle.listing.proofs.hand_out.advance.Goals as goal

pub turn_at-requires-clause-inside : goal.turn_at-requires-clause-inside
turn_at-requires-clause-inside c =
    let v = c.args.parents.now in
    let xs = c.args.sinks.now.sinks in
    let o = split_last xs c.requires.some in
    let t = sym (ap (turn_from v.lists v.left) o.is) ∙ sym c.requires.turns ∙ c.in-Some.is in
    (older v c.requires.many xs c.requires.ready _ o.is c.in-Some.row t).0

pub turn_at-requires-clause-older : goal.turn_at-requires-clause-older
turn_at-requires-clause-older c =
    let v = c.args.parents.now in
    let xs = c.args.sinks.now.sinks in
    let o = split_last xs c.requires.some in
    let t = sym (ap (turn_from v.lists v.left) o.is) ∙ sym c.requires.turns ∙ c.in-Some.is in
    (older v c.requires.many xs c.requires.ready _ o.is c.in-Some.row t).1

pub turn_at-requires-clause-end : goal.turn_at-requires-clause-end
turn_at-requires-clause-end c =
    let v = c.args.parents.now in
    let xs = c.args.sinks.now.sinks in
    let o = split_last xs c.requires.some in
    let t = sym (ap (turn_from v.lists v.left) o.is) ∙ sym c.requires.turns ∙ c.in-Some.is in
    (older v c.requires.many xs c.requires.ready _ o.is c.in-Some.row t).2

pub returns-in-Some-clause-ready : goal.returns-in-Some-clause-ready
returns-in-Some-clause-ready c =
    let v = c.args.parents.now in
    let xs = c.args.sinks.now.sinks in
    let o = split_last xs c.requires.some in
    let t = sym (ap (turn_from v.lists v.left) o.is) ∙ sym c.requires.turns ∙ c.in-Some.is in
    rw c.turn_at.ensures (goes_on v c.requires.many xs c.requires.ready _ o.is c.in-Some.row t).0

pub returns-in-Some-clause-come : goal.returns-in-Some-clause-come
returns-in-Some-clause-come c =
    let v = c.args.parents.now in
    let xs = c.args.sinks.now.sinks in
    let o = split_last xs c.requires.some in
    let t = sym (ap (turn_from v.lists v.left) o.is) ∙ sym c.requires.turns ∙ c.in-Some.is in
    rw c.turn_at.ensures (goes_on v c.requires.many xs c.requires.ready _ o.is c.in-Some.row t).1

pub begin_latest-requires-clause-inside : goal.begin_latest-requires-clause-inside
begin_latest-requires-clause-inside c t h =
    let o = split_last c.args.sinks.now.sinks c.requires.some in
    c.requires.ready.inside t (o.rest t (rw c.drop_latest.ensures.sinks at h))

pub returns-in-None-clause-come : goal.returns-in-None-clause-come
returns-in-None-clause-come c =
    let v = c.args.parents.now in
    let xs = c.args.sinks.now.sinks in
    let o = split_last xs c.requires.some in
    let t = sym (ap (turn_from v.lists v.left) o.is) ∙ sym c.requires.turns ∙ c.in-None.is in
    let over = goes_over v c.requires.many xs c.requires.ready _ o.is t in
    let rest = ap (λ (y : List ℕ). listing (par v.lists) (length v.lists) (reverse y)) (sym c.drop_latest.ensures.sinks) ∙ sym c.begin_latest.ensures.come in
    rw c.begin_latest.ensures.lists (over ∙ ap (λ (l : List (List ℕ)). next_route v.lists v.left xs ∷ l) rest)
