use Rattle.std.proofs.Common.{arith}
use Rattle.links.proofs.Singles.{all_kept}
use Rattle.links.proofs.parents.Parents.pass.Goals as goal

pub pass-requires-clause-inside : goal.pass-requires-clause-inside
pass-requires-clause-inside c =
    let i = c.self.inside in
    let k = all_kept i.keeps i.only.now i.len i.lists _ c.args.row c.self.view_is c.self.invariant c.requires.row c.requires.older in
    let v = rw k at c.self.view_is in
    rw (← v) at c.requires.row

pub pass-requires-clause-chosen : goal.pass-requires-clause-chosen
pass-requires-clause-chosen c =
    let i = c.self.inside in
    let k = all_kept i.keeps i.only.now i.len i.lists _ c.args.row c.self.view_is c.self.invariant c.requires.row c.requires.older in
    let v = rw k at c.self.view_is in
    let o = rw (← v) at c.requires.older in
    omega arith

pub returns-clause-left : goal.returns-clause-left
returns-clause-left c =
    let i = c.self.inside in
    let k = all_kept i.keeps i.only.now i.len i.lists _ c.args.row c.self.view_is c.self.invariant c.requires.row c.requires.older in
    let v = rw k at c.self.view_is in
    rw (k, ← v) c.pass.ensures.left
