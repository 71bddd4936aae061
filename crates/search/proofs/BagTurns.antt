-- astar_bag: each turn keeps the invariant, and the outcome shows what it should.
use Rattle.std.proofs.Common.{◌↔◌, ◌≡◌, ℕ, ◌+◌, ◌<◌, Bool, true, false, ◌⊎◌, cond, List, [], ◌∷◌, ◌++◌, get_or, Some, None, Option, Ok, refl, inl, inr, arith}
use Rattle.std.proofs.lemmas.Grind.{common_steps}
use Rattle.std.proofs.lemmas.Option.{slice_get-get_or}
use Rattle.kinds.specs.Kind.{Kind}
use Rattle.graph.specs.Meaning.{Meaning, IsLawful}
use Rattle.graph.specs.Routes.{IsTrueGuess}
use Rattle.search.specs.Capacity.{Capacity}
use Rattle.search.specs.Outcome.{Outcome}
use Rattle.search.specs.Ends.{Turned, Ends}
use Rattle.search.specs.Laws.{Shows}
use Rattle.search.specs.Rows.{Row, no_row}
use Rattle.search.specs.Roads.{State, all}
use Rattle.search.specs.Queue.{Entry, first_out}
use Rattle.search.specs.Bag.{Bag, joined, is_past, ended, noted, followed, taken, bag, begin}
use Rattle.search.specs.Members.{In, Distinct, has}
use Rattle.search.proofs.Once.{After, after_turned, through}
use Rattle.search.proofs.Places.{At, in_push, distinct_push, has_in}
use Rattle.search.proofs.Invariant.{Grown}
use Rattle.search.proofs.Changes.{went}
use Rattle.search.proofs.Frontier.{no_route, no_lighter}
use Rattle.search.proofs.Heap.{guesses, Waits, Going, first_none, first_in, first_low, first_under, take_keeps, begin_going}
use Rattle.search.proofs.Shown.{Sink, Last, Low, shows_found}
use Rattle.search.proofs.Every.{lists_all}

pub joined_in : (m i : ℕ) (js : List ℕ) → In m (joined i js) ↔ (In m js ⊎ (m ≡ i))
joined_in m i js = go (has i js) refl
  where
    go : (b : Bool) → has i js ≡ b → In m (cond b js (js ++ i ∷ [])) ↔ (In m js ⊎ (m ≡ i))
    go true e = (λ h. inl h, elim [ inl h ↦ h | inr q ↦ rw q ((has_in i js).0 e) ])
    go false e = in_push m i js

pub joined_distinct : (i : ℕ) (js : List ℕ) → Distinct js → Distinct (joined i js)
joined_distinct i js d = go (has i js) refl
  where
    go : (b : Bool) → has i js ≡ b → Distinct (cond b js (js ++ i ∷ []))
    go true e = d
    go false e = distinct_push i js (λ h. let t = (has_in i js).1 h in cc) d

module _ (K : Kind) (M : Meaning) (guess : ℕ → ℕ) (cap : Capacity) (law : IsLawful M guess) (Guided : Type 0) (guided : Guided → IsTrueGuess M guess) (start : ℕ) where
  -- the cost is that of a goal that was taken, if any was
  abbrev Costs : List Row → List ℕ → Option ℕ → Type 0
  Costs rows sinks None = sinks ≡ []
  Costs rows sinks (Some c) = Last M Guided start rows sinks c

  abbrev Keep : (sinks : List ℕ) → State (List Entry) → Type 0
  Keep sinks = Going K M (guesses K guess) cap all law start (λ j. In j sinks)

  record Sunk (rows : List Row) (sinks : List ℕ) (cost : Option ℕ) : Type 0 where
    each : (j : ℕ) → In j sinks → Sink M Guided start rows j
    costs : Costs rows sinks cost
    apart : Distinct sinks

  record Good (b : Bag) : Type 0 where
    going : Keep b.sinks b.search
    sunk : Sunk b.search.rows b.sinks b.cost

  abbrev AfterTurn : Turned Bag → Type 0
  AfterTurn = After Good (Shows all M Guided start)

  sunk_on : (rows rows' : List Row) (sinks : List ℕ) (cost : Option ℕ) → Grown rows rows' → Sunk rows sinks cost → Sunk rows' sinks cost
  sunk_on rows rows' sinks cost g s = record { each = λ j h. sink j (s.each j h); costs = costs cost s.costs; apart = s.apart }
    where
      sink : (j : ℕ) → Sink M Guided start rows j → Sink M Guided start rows' j
      sink j k = let x = g j k.row k.there in record { row = x.0; there = x.1; goal = rw x.2 k.goal; low = λ t ks w r. omega (arith, x.3, k.low t ks w r) }

      costs : (o : Option ℕ) → Costs rows sinks o → Costs rows' sinks o
      costs None e = e
      costs (Some c) l = let x = g l.at l.row l.there in record { at = l.at; sink = l.sink; row = x.0; there = x.1; within = omega (arith, x.3, l.within); low = l.low }

  -- nothing that waits can lead to a route that weighs no more than the cost
  abbrev Past : State (List Entry) → Option ℕ → Type 0
  Past s None = (j : ℕ) → Waits s.waits j → ⊥
  Past s (Some c) = (j : ℕ) (q : Row) → At s.rows j q → Waits s.waits j → c < q.cost + guess q.key

  ended_shows : (s : State (List Entry)) (sinks : List ℕ) (o : Option ℕ) → Keep sinks s → Sunk s.rows sinks o → Past s o → Shows all M Guided start (ended o s.rows sinks)
  ended_shows s sinks None g k p = λ ks r. no_route all M start (λ j. In j sinks) (Waits s.waits) s.rows g.inv p (λ j h. rw k.costs at h) ks r.0 r.1
  ended_shows s sinks (Some c) g k p =
      shows_found all M guess law Guided start s.rows g.inv.tree sinks c k.each k.costs (lists_all M guess law Guided guided start sinks (Waits s.waits) s.rows g.inv c k.apart k.each k.costs.low p)

  module _ (b : Bag) (g : Good b) (e : Entry) (f : first_out b.search.waits ≡ Some e) (r : Row) (a : At b.search.rows e.row r) (is : get_or b.search.rows e.row no_row ≡ r) where
    low : (o : Option ℕ) → b.cost ≡ o → is_past o e.estimate ≡ false → Low M Guided start r.cost
    low None q p = λ t.
        no_lighter all M start (λ j. In j b.sinks) (Waits b.search.waits) b.search.rows g.going.inv guess law (guided t) r.cost
        (λ j x y w. omega (arith, first_low K M (guesses K guess) cap all law start _ b.search g.going e f r is, first_under K M (guesses K guess) cap all law start _ b.search g.going e f r is j x y w))
        (λ j x y h. absurd (let z : b.sinks ≡ [] = rw q at g.sunk.costs in rw z at h))
    low (Some c) q p = λ t ks w h.
        let l : Last M Guided start b.search.rows b.sinks c = rw q at g.sunk.costs in
        grind (arith, common_steps, first_low K M (guesses K guess) cap all law start _ b.search g.going e f r is, l.low t ks w h)

    noted_keeps : (goal : Bool) → M.goal r.key ≡ goal → Low M Guided start r.cost → (t : Bag) → followed K M guess cap e.row (noted goal e.row r.cost b) ≡ Ok t → Good t
    noted_keeps false q l t x =
        let y = went _ _ t x in
        let k = take_keeps K M (guesses K guess) cap all law start _ b.search g.going e f r is (λ j. In j b.sinks) a (λ m h. h) (λ z. cc) y.0 y.1 in
        let z : t ≡ record { search = y.0; sinks = b.sinks; cost = b.cost } = cc in
        rw z (record { going = k.0; sunk = sunk_on b.search.rows y.0.rows b.sinks b.cost k.1 g.sunk })
    noted_keeps true q l t x =
        let y = went _ _ t x in
        let js = joined e.row b.sinks in
        let k = take_keeps K M (guesses K guess) cap all law start _ b.search g.going e f r is (λ j. In j js) a (λ m h. (joined_in m e.row b.sinks).1 (inl h)) (λ z. (joined_in e.row e.row b.sinks).1 (inr refl)) y.0 y.1 in
        let z : t ≡ record { search = y.0; sinks = js; cost = Some r.cost } = cc in
        let s : Sunk b.search.rows js (Some r.cost) = record {
          each = λ j h. elim ((joined_in j e.row b.sinks).0 h) [ inl h ↦ g.sunk.each j h | inr n ↦ rw n (record { row = r; there = a; goal = q; low = l }) ];
          costs = record { at = e.row; sink = (joined_in e.row e.row b.sinks).1 (inr refl); row = r; there = a; within = omega arith; low = l };
          apart = joined_distinct e.row b.sinks g.sunk.apart;
        } in
        rw z (record { going = k.0; sunk = sunk_on b.search.rows y.0.rows js (Some r.cost) k.1 s })

    taken_keeps : (past : Bool) → is_past b.cost e.estimate ≡ past → AfterTurn (taken K M guess cap past e.row r b)
    unfolding taken
    taken_keeps true p = ended_shows b.search b.sinks b.cost g.going g.sunk (go b.cost p)
      where
        go : (o : Option ℕ) → is_past o e.estimate ≡ true → Past b.search o
        go None p = cc
        go (Some c) p = λ j q x w. grind (arith, common_steps, first_under K M (guesses K guess) cap all law start _ b.search g.going e f r is j q x w)
    taken_keeps false p = after_turned Good (Shows all M Guided start) (λ x. tt) _ (noted_keeps (M.goal r.key) refl (low b.cost refl p))

  turn_keeps : (b : Bag) → Good b → (o : Option Entry) → first_out b.search.waits ≡ o → AfterTurn (bag K M guess cap o b)
  unfolding bag
  turn_keeps b g None f = ended_shows b.search b.sinks b.cost g.going g.sunk (go b.cost)
    where
      go : (o : Option ℕ) → Past b.search o
      go None = λ j w. first_none b.search.waits f w.entry w.there
      go (Some c) = λ j q x w. absurd (first_none b.search.waits f w.entry w.there)
  turn_keeps b g (Some e) f =
      taken_keeps b g e f (get_or b.search.rows e.row no_row) (slice_get-get_or b.search.rows e.row no_row (g.going.fair e (first_in b.search.waits e f)).within) refl _ refl

  begin_good : M.held start ≡ true → Good (begin start)
  begin_good h = record {
    going = begin_going K M (guesses K guess) cap all law start h (λ j. In j []);
    sunk = record { each = λ j h. absurd h; costs = refl; apart = tt };
  }

  pub bag_shows : M.held start ≡ true → (o : Outcome) → Ends (λ b. bag K M guess cap (first_out b.search.waits) b) (begin start) o → Shows all M Guided start o
  bag_shows h o e = through (λ b. bag K M guess cap (first_out b.search.waits) b) Good (Shows all M Guided start) (λ b g. turn_keeps b g (first_out b.search.waits) refl) (begin_good h) e
