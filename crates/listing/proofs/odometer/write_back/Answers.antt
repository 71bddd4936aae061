use Rattle.std.proofs.Common.{◌≡◌, ℕ, zero, suc, ◌+◌, ◌-◌, ◌<◌, ◌≤◌, ◌∷◌, List, map, drop, set, length, sym, ap, ◌∙◌, subst, [], arith}
use Rattle.std.proofs.lemmas.List.{drop-set}
use Rattle.store.specs.Rows.{At}
use Rattle.links.specs.Listings.{at}
use Rattle.listing.specs.Handing.{par, route, key_at}
use Rattle.listing.proofs.Ranks.{par_inside}
use Rattle.listing.proofs.Walks.{Writing, writing_none, writing_out, writing_some}
use Rattle.listing.proofs.odometer.write_back.Goals as goal

-- the key of a node that is read from a row
key_read : {N V : Type 0} (key : N → ℕ) (listed : List (N × V)) (row : ℕ) (x : N) → row < length listed → At listed row (λ y. x ≡ y.0) → key x ≡ key_at (map (λ y. key y.0) listed) row
key_read key [] row x l a = absurd (omega arith)
key_read key (y ∷ listed) zero x l a = ap key (a y)
key_read key (y ∷ listed) (suc row) x l a = key_read key listed row x (omega arith) (λ d. a d)

-- one more node written before what is written
written : {X : Type 0} (key : X → ℕ) (out : List X) (place : ℕ) (x : X) (k : ℕ) (ks : List ℕ) → 0 < place → place ≤ length out → key x ≡ k → map key (drop place out) ≡ ks → map key (drop (place - 1) (set out (place - 1) x)) ≡ k ∷ ks
written key out place x k ks p l e a =
    let q : place - 1 + 1 ≡ place = omega arith in
    ap (map key) (drop-set out (place - 1) x (omega arith) ∙ ap (λ j. x ∷ drop j out) q)
    ∙ ap (λ z. key x ∷ z) a ∙ ap (λ z. z ∷ ks) e

pub loop-place-preserved-in-Some : goal.loop-place-preserved-in-Some
loop-place-preserved-in-Some g c =
    let v = c.args.parents.now in
    let i = c.loop-place.invariant in
    let T = route v.lists v.left c.args.sink in
    let z : c.loop-place.place ≡ c.loop-place.place - 1 + 1 = omega arith in
    let w = subst (λ (k : ℕ). Writing (par v.lists) (at v.left) T (length v.lists) k c.loop-place.row i.0) z i.2 in
    let lr : c.loop-place.row < length c.args.rows.now.listed = omega (arith, w.1, c.requires.rows) in (
      c.loop-place.row ∷ i.0,
      written g.N.NodeKind.key c.loop-place.out c.loop-place.place c.node.result _ _ (omega arith) (omega arith) (key_read g.N.NodeKind.key c.args.rows.now.listed c.loop-place.row c.node.result lr c.node.ensures) i.1,
      writing_some (par v.lists) (at v.left) (length v.lists) (par_inside c.requires.falling) c.loop-place.row T i.0 (c.loop-place.place - 1) c.in-Some.parent (cc) w,
    )

pub loop-place-preserved : goal.loop-place-preserved
loop-place-preserved g c =
    let v = c.args.parents.now in
    let i = c.loop-place.invariant in
    let T = route v.lists v.left c.args.sink in
    let z : c.loop-place.place ≡ c.loop-place.place - 1 + 1 = omega arith in
    let w = subst (λ (k : ℕ). Writing (par v.lists) (at v.left) T (length v.lists) k c.loop-place.row i.0) z i.2 in
    let lr : c.loop-place.row < length c.args.rows.now.listed = omega (arith, w.1, c.requires.rows) in (
      c.loop-place.row ∷ i.0,
      written g.N.NodeKind.key c.loop-place.out c.loop-place.place c.node.result _ _ (omega arith) (omega arith) (key_read g.N.NodeKind.key c.args.rows.now.listed c.loop-place.row c.node.result lr c.node.ensures) i.1,
      writing_none (par v.lists) (at v.left) (length v.lists) (par_inside c.requires.falling) c.loop-place.row T i.0 (c.loop-place.place - 1) (cc) w,
    )

pub returns : goal.returns
returns g c =
    let v = c.args.parents.now in
    let i = c.loop-place.invariant in
    let T = route v.lists v.left c.args.sink in
    let z : c.loop-place.place ≡ 0 = omega arith in
    let w = subst (λ (k : ℕ). Writing (par v.lists) (at v.left) T (length v.lists) k c.loop-place.row i.0) z i.2 in
    let o = writing_out (par v.lists) (at v.left) (length v.lists) (par_inside c.requires.falling) c.loop-place.row T i.0 w in
    ap (λ k. map g.N.NodeKind.key (drop k c.loop-place.out)) (sym z) ∙ i.1 ∙ ap (map (key_at (map (λ y. g.N.NodeKind.key y.0) c.args.rows.now.listed))) o
