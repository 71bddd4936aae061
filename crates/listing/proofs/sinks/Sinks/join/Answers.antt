use Rattle.std.proofs.Common.{◌≡◌, false, take}
use Rattle.search.specs.Members.{has}
use Rattle.listing.proofs.Joins.{has_place, kept_more, joins}
use Rattle.listing.proofs.sinks.Sinks.join.Goals as goal

pub bounds-rows-self-inside : goal.bounds-rows-self-inside
bounds-rows-self-inside c =
    let i = c.self.inside in
    let r = rw (← c.self.view_is) at c.requires in
    let a : has c.args.row (take i.count i.rows.now) ≡ false = cc in
    has_place i.rows.now i.count c.self.invariant c.args.row r a

pub invariant_of-self-2 : goal.invariant_of-self-2
invariant_of-self-2 c =
    let i = c.self.inside in
    let r = rw (← c.self.view_is) at c.requires in
    let a : has c.args.row (take i.count i.rows.now) ≡ false = cc in
    kept_more i.rows.now i.count c.self.invariant c.args.row r a

pub returns-clause-sinks : goal.returns-clause-sinks
returns-clause-sinks c =
    let i = c.self.inside in
    let r = rw (← c.self.view_is) at c.requires in
    let a : has c.args.row (take i.count i.rows.now) ≡ false = cc in
    rw (← c.self.view_is) (joins i.rows.now i.count c.self.invariant c.args.row r a)
