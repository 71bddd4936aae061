-- What each turn of a search over rows keeps, whatever its graph guesses: the rows are a tree, what waits are rows, and goals
-- that were taken are rows, each once.
use Rattle.std.proofs.Common.{◌≡◌, ℕ, ◌+◌, ◌<◌, ◌≤◌, Bool, true, false, ◌⊎◌, List, [], ◌∷◌, ◌++◌, length, get_or, Some, None, Option, Ok, Result, inl, inr, refl, length-append, arith}
use Rattle.std.specs.Prelude.{nat_lt, not, ◌==◌}
use Rattle.std.proofs.lemmas.Bool.{cases_eq}
use Rattle.std.proofs.lemmas.Grind.{common_steps}
use Rattle.std.proofs.lemmas.Option.{slice_get-get_or, slice_get_within}
use Rattle.kinds.specs.Kind.{Kind}
use Rattle.graph.specs.Meaning.{Meaning, IsLawful}
use Rattle.search.specs.declared.refusal.SeekRefusal.{SeekRefusal}
use Rattle.search.specs.Members.{In, Distinct}
use Rattle.search.specs.Capacity.{Capacity}
use Rattle.search.specs.Ends.{Turned, more}
use Rattle.search.specs.Rows.{Row, no_row}
use Rattle.search.specs.Roads.{State, Open, Keeps, one, all, from_here, follow}
use Rattle.search.specs.Queue.{Entry, first_out}
use Rattle.search.specs.Queue as queue
use Rattle.search.specs.Best as best
use Rattle.search.specs.Best.{Estimate, by_guess, pushed, push}
use Rattle.search.specs.Bag as bag
use Rattle.search.specs.Bag.{Bag, joined}
use Rattle.search.specs.Fringe as fringe
use Rattle.search.specs.Fringe.{Fringe, to_front}
use Rattle.search.proofs.Once.{After, after_turned}
use Rattle.search.proofs.Places.{in_push, distinct_push, distinct_filter}
use Rattle.search.proofs.Invariant.{Tree, begins}
use Rattle.search.proofs.Placed.{Placed}
use Rattle.search.proofs.Changes.{Change, went, follow_all}
use Rattle.search.proofs.Relaxed.{follow_keeps}
use Rattle.search.proofs.Heap.{first_in}
use Rattle.search.proofs.Heap as heap
use Rattle.search.proofs.FringeTurns as queues
use Rattle.search.proofs.BagTurns.{joined_in, joined_distinct}
use Rattle.search.proofs.FringeEnds.{at}

-- of dijkstra and astar
pub record Rooted (keeps : Keeps) (M : Meaning) (start : ℕ) (s : State (List Entry)) : Type 0 where
  pub tree : Tree keeps M start s.rows
  pub waiting : (e : Entry) → In e s.waits → e.row < length s.rows

-- of astar_bag
pub record RootedBag (M : Meaning) (start : ℕ) (b : Bag) : Type 0 where
  pub rooted : Rooted all M start b.search
  pub inside : (j : ℕ) → In j b.sinks → j < length b.search.rows
  pub once : Distinct b.sinks

-- of fringe: each row that waits stands in one of the queues, once
pub record Queued (rows : List Row) (f : Fringe) : Type 0 where
  pub inside : (j : ℕ) → In j f.now ⊎ In j f.later → j < length rows
  pub once : Distinct f.now × Distinct f.later
  pub apart : (j : ℕ) → In j f.now → In j f.later → ⊥

pub record RootedFringe (M : Meaning) (start : ℕ) (s : State Fringe) : Type 0 where
  pub tree : Tree one M start s.rows
  pub queued : Queued s.rows s.waits

-- what is kept after a turn
abbrev AfterOf : {S : Type 0} → (S → Type 0) → Turned S → Type 0
AfterOf P x = After P (λ o. Unit {0}) x

kept : {S : Type 0} (P : S → Type 0) (t : S) (x : Turned S) → AfterOf P x → more t ≡ x → P t
kept P t x h e = rw (← e) at h

abbrev Any : {A : Type 0} → A → ℕ → Type 0
Any w j = Unit {0}

abbrev Every : ℕ → Type 0
Every j = Unit {0}

-- rows are never given back
longer : (rows rows' : List Row) (j : ℕ) (new : Row) → Placed rows rows' j new → (m : ℕ) → m < length rows → m < length rows'
longer rows rows' j new p m l = elim (cases_eq m j) [
  | inl e ↦ slice_get_within rows' m new (rw e p.here)
  | inr n ↦ slice_get_within rows' m _ (p.to m _ n (slice_get-get_or rows m no_row l))
]

-- a row's roads are followed, and what enters is kept
module _ {W : Type 0} (K : Kind) (M : Meaning) {guess : ℕ → ℕ} (cap : Capacity) (keeps : Keeps) (enter : Open → (row : ℕ) → W → Result W SeekRefusal) (law : IsLawful M guess) (start : ℕ)
    (Extra : List Row → W → Type 0)
    (placed : (road : Open) (j : ℕ) (rows rows' : List Row) (w w' : W) → Placed rows rows' j (from_here road) → enter road j w ≡ Ok w' → Extra rows w → Extra rows' w')
    (same : (rows rows' : List Row) (w : W) → length rows' ≡ length rows → Extra rows w → Extra rows' w) where
  follow_rooted : (i : ℕ) (s t : State W) → i < length s.rows → Tree keeps M start s.rows → Extra s.rows s.waits → follow K M cap keeps enter i s ≡ Ok t → Tree keeps M start t.rows × Extra t.rows t.waits
  follow_rooted i s t l tree extra e =
      let g = follow_keeps K M cap keeps enter guess law start Every Any Extra (λ road j w w' q. (tt, λ m n u. tt)) placed (λ z j k old rows w a x. same rows _ w (grind (arith, common_steps)) x)
      i (get_or s.rows i no_row) Every Every s t (slice_get-get_or s.rows i no_row l) refl (record { tree = tree; settled = λ j r a. inl tt }) (λ m u. tt) (λ m n u. tt) (λ u. tt) extra e in
      (g.inv.tree, g.extra)

module _ {W : Type 0} (K : Kind) (M : Meaning) (cap : Capacity) (keeps : Keeps) (enter : Open → (row : ℕ) → W → Result W SeekRefusal) where
  change_longer : (road : Open) (s t : State W) → Change K M cap keeps enter road s t → length s.rows ≤ length t.rows
  change_longer road s t (Change.stays z j q a h l m) = rw z (omega arith)
  change_longer road s t (Change.makes fresh l z e) = rw (z, length-append) (omega arith)
  change_longer road s t (Change.cheapens j q a h l z e) = rw z (grind (arith, common_steps))
  change_longer road s t (Change.links kq j q a h l n z) = rw z (grind (arith, common_steps))

  follow_longer : (i : ℕ) (s t : State W) → follow K M cap keeps enter i s ≡ Ok t → length s.rows ≤ length t.rows
  follow_longer i s t e = follow_all K M cap keeps enter (λ u. length s.rows ≤ length u.rows) (λ j c rank k w u v q x. omega (arith, change_longer _ u v x.change)) i s t (omega arith) e

-- ---- the heap
abbrev Waiting : List Row → List Entry → Type 0
Waiting rows es = (e : Entry) → In e es → e.row < length rows

waiting_placed : (estimate : Estimate) (road : Open) (j : ℕ) (rows rows' : List Row) (es es' : List Entry) → Placed rows rows' j (from_here road) → push estimate road j es ≡ Ok es' → Waiting rows es → Waiting rows' es'
waiting_placed estimate road j rows rows' es es' p q w = go (estimate road) q
  where
    go : (o : Option ℕ) → pushed o road j es ≡ Ok es' → Waiting rows' es'
    go None q = cc
    go (Some x) q =
        let new : Entry = record { row = j; estimate = x; cost = road.sum } in
        let z : es' ≡ queue.without j es ++ new ∷ [] = cc in
        rw z (λ e h. elim ((in_push e new (queue.without j es)).0 h) [
          | inl k ↦ longer rows rows' j _ p e.row (w e ((heap.without_in j e es).0 k).0)
          | inr k ↦ rw k (slice_get_within rows' j _ p.here)
        ])

waiting_same : (rows rows' : List Row) (es : List Entry) → length rows' ≡ length rows → Waiting rows es → Waiting rows' es
waiting_same rows rows' es e w = λ x h. rw e (w x h)

pub best_begins : (keeps : Keeps) (M : Meaning) (start : ℕ) → M.held start ≡ true → Rooted keeps M start (best.begin start)
best_begins keeps M start h = record { tree = (begins keeps M start Every Every h tt).tree; waiting = λ e i. grind arith }

module _ (K : Kind) (M : Meaning) {guess : ℕ → ℕ} (estimate : Estimate) (cap : Capacity) (law : IsLawful M guess) (start : ℕ) where
  take_rooted : (keeps : Keeps) (s t : State (List Entry)) (i : ℕ) → i < length s.rows → Rooted keeps M start s → follow K M cap keeps (push estimate) i (record { rows = s.rows; waits = queue.without i s.waits }) ≡ Ok t → Rooted keeps M start t
  take_rooted keeps s t i l r q =
      let g = follow_rooted K M cap keeps (push estimate) law start Waiting (waiting_placed estimate) waiting_same i (record { rows = s.rows; waits = queue.without i s.waits }) t l r.tree (λ e h. r.waiting e ((heap.without_in i e s.waits).0 h).0) q in
      record { tree = g.0; waiting = g.1 }

  best_roots : (s : State (List Entry)) → Rooted one M start s → (o : Option Entry) → first_out s.waits ≡ o → AfterOf (Rooted one M start) (best.best K M estimate cap o s)
  unfolding best.best best.taken
  best_roots s r None f = tt
  best_roots s r (Some e) f = go (M.goal (get_or s.rows e.row no_row).key)
    where
      go : (goal : Bool) → AfterOf (Rooted one M start) (best.taken K M estimate cap goal e.row s)
      go true = tt
      go false = after_turned (Rooted one M start) (λ o. Unit {0}) (λ x. tt) _ (λ t q. take_rooted one s t e.row (r.waiting e (first_in s.waits e f)) r q)

  pub best_keeps : (s t : State (List Entry)) → Rooted one M start s → more t ≡ best.best K M estimate cap (first_out s.waits) s → Rooted one M start t
  best_keeps s t r e = kept (Rooted one M start) t _ (best_roots s r (first_out s.waits) refl) e

-- ---- the bag
pub bag_begins : (M : Meaning) (start : ℕ) → M.held start ≡ true → RootedBag M start (bag.begin start)
bag_begins M start h = record { rooted = best_begins all M start h; inside = λ j i. absurd i; once = tt }

module _ (K : Kind) (M : Meaning) {guess : ℕ → ℕ} (cap : Capacity) (law : IsLawful M guess) (start : ℕ) where
  noted_rooted : (b t : Bag) (e : Entry) → RootedBag M start b → e.row < length b.search.rows → (goal : Bool) (c : ℕ) → bag.followed K M guess cap e.row (bag.noted goal e.row c b) ≡ Ok t → RootedBag M start t
  noted_rooted b t e r l goal c q = go goal q
    where
      rows_longer : (u : State (List Entry)) → follow K M cap all (push (by_guess K guess)) e.row (record { rows = b.search.rows; waits = queue.without e.row b.search.waits }) ≡ Ok u → (j : ℕ) → j < length b.search.rows → j < length u.rows
      rows_longer u q j l = omega (arith, follow_longer K M cap all (push (by_guess K guess)) e.row _ u q)

      go : (goal : Bool) → bag.followed K M guess cap e.row (bag.noted goal e.row c b) ≡ Ok t → RootedBag M start t
      go false q =
          let y = went _ _ t q in
          let z : t ≡ record { search = y.0; sinks = b.sinks; cost = b.cost } = cc in
          rw z (record { rooted = take_rooted K M (by_guess K guess) cap law start all b.search y.0 e.row l r.rooted y.1; inside = λ j h. rows_longer y.0 y.1 j (r.inside j h); once = r.once })
      go true q =
          let y = went _ _ t q in
          let z : t ≡ record { search = y.0; sinks = joined e.row b.sinks; cost = Some c } = cc in
          rw z (record {
            rooted = take_rooted K M (by_guess K guess) cap law start all b.search y.0 e.row l r.rooted y.1;
            inside = λ j h. rows_longer y.0 y.1 j (elim ((joined_in j e.row b.sinks).0 h) [ inl k ↦ r.inside j k | inr k ↦ rw k l ]);
            once = joined_distinct e.row b.sinks r.once;
          })

  bag_roots : (b : Bag) → RootedBag M start b → (o : Option Entry) → first_out b.search.waits ≡ o → AfterOf (RootedBag M start) (bag.bag K M guess cap o b)
  unfolding bag.bag bag.taken
  bag_roots b r None f = tt
  bag_roots b r (Some e) f = go (bag.is_past b.cost e.estimate)
    where
      row : Row
      row = get_or b.search.rows e.row no_row

      go : (past : Bool) → AfterOf (RootedBag M start) (bag.taken K M guess cap past e.row row b)
      go true = tt
      go false = after_turned (RootedBag M start) (λ o. Unit {0}) (λ x. tt) _ (λ t q. noted_rooted b t e r (r.rooted.waiting e (first_in b.search.waits e f)) (M.goal row.key) row.cost q)

  pub bag_keeps : (b c : Bag) → RootedBag M start b → more c ≡ bag.bag K M guess cap (first_out b.search.waits) b → RootedBag M start c
  bag_keeps b c r e = kept (RootedBag M start) c _ (bag_roots b r (first_out b.search.waits) refl) e

-- ---- the queues
queued_placed : (road : Open) (j : ℕ) (rows rows' : List Row) (f f' : Fringe) → Placed rows rows' j (from_here road) → to_front road j f ≡ Ok f' → Queued rows f → Queued rows' f'
queued_placed road j rows rows' f f' p e q =
    let z : f' ≡ record { now = j ∷ fringe.without j f.now; later = fringe.without j f.later; limit = f.limit; least = f.least } = cc in
    rw z (record {
      inside = λ m. elim [
        | inl o ↦ elim o [ inl k ↦ rw k (slice_get_within rows' j _ p.here) | inr k ↦ longer rows rows' j _ p m (q.inside m (inl ((queues.without_in j m f.now).0 k).0)) ]
        | inr o ↦ longer rows rows' j _ p m (q.inside m (inr ((queues.without_in j m f.later).0 o).0))
      ];
      once = ((λ h. ((queues.without_in j j f.now).0 h).1 refl, distinct_filter (λ i. not (i == j)) f.now q.once.0), distinct_filter (λ i. not (i == j)) f.later q.once.1);
      apart = λ m a b. let l = (queues.without_in j m f.later).0 b in elim a [ inl k ↦ l.1 k | inr k ↦ q.apart m ((queues.without_in j m f.now).0 k).0 l.0 ];
    })

queued_same : (rows rows' : List Row) (f : Fringe) → length rows' ≡ length rows → Queued rows f → Queued rows' f
queued_same rows rows' f e q = record { inside = λ j h. rw e (q.inside j h); once = q.once; apart = q.apart }

pub fringe_begins : (K : Kind) (M : Meaning) (guess : ℕ → ℕ) (cap : Capacity) (start : ℕ) → M.held start ≡ true → RootedFringe M start (fringe.begin K M guess cap start)
fringe_begins K M guess cap start h = record {
  tree = (begins one M start Every Every h tt).tree;
  queued = record { inside = λ j i. grind arith; once = ((λ i. i, tt), tt); apart = λ j a b. b };
}

module _ (K : Kind) (M : Meaning) {guess : ℕ → ℕ} (cap : Capacity) (law : IsLawful M guess) (start : ℕ) where
  module _ (rows : List Row) (i : ℕ) (is later : List ℕ) (limit least : ℕ) (r : RootedFringe M start (at rows (i ∷ is) later limit least)) where
    abbrev s : State Fringe
    s = at rows is later limit least

    rest : Queued rows s.waits
    rest = record {
      inside = λ j h. r.queued.inside j (elim h [ inl o ↦ inl (inr o) | inr o ↦ inr o ]);
      once = (r.queued.once.0.1, r.queued.once.1);
      apart = λ j a b. r.queued.apart j (inr a) b;
    }

    within_roots : (goal : Bool) → AfterOf (RootedFringe M start) (fringe.within K M guess cap goal i s)
    unfolding fringe.within
    within_roots true = tt
    within_roots false = after_turned (RootedFringe M start) (λ o. Unit {0}) (λ x. tt) _ (λ t q.
        let g = follow_rooted K M cap one to_front law start Queued queued_placed queued_same i s t (r.queued.inside i (inl (inl refl))) r.tree rest q in
        record { tree = g.0; queued = g.1 })

    limited_roots : (over : Bool) (sum : ℕ) → AfterOf (RootedFringe M start) (fringe.limited K M guess cap over i sum s)
    unfolding fringe.limited
    limited_roots true sum = record {
      tree = r.tree;
      queued = record {
        inside = λ j h. elim h [
          | inl o ↦ r.queued.inside j (inl (inr o))
          | inr o ↦ elim ((in_push j i later).0 o) [ inl k ↦ r.queued.inside j (inr k) | inr k ↦ r.queued.inside j (inl (inl k)) ]
        ];
        once = (r.queued.once.0.1, distinct_push i later (λ h. r.queued.apart i (inl refl) h) r.queued.once.1);
        apart = λ j a b. elim ((in_push j i later).0 b) [ inl k ↦ r.queued.apart j (inr a) k | inr k ↦ r.queued.once.0.0 (rw k at a) ];
      };
    }
    limited_roots false sum = within_roots (M.goal (get_or rows i no_row).key)

    summed_roots : (q : Row) (fits : Bool) → AfterOf (RootedFringe M start) (fringe.summed K M guess cap fits i q s)
    unfolding fringe.summed
    summed_roots q true = limited_roots (nat_lt limit (q.cost + guess q.key)) (q.cost + guess q.key)
    summed_roots q false = tt

  fringe_roots : (rows : List Row) (now later : List ℕ) (limit least : ℕ) → RootedFringe M start (at rows now later limit least) → AfterOf (RootedFringe M start) (fringe.fringe K M guess cap now (at rows now later limit least))
  unfolding fringe.fringe fringe.passed
  fringe_roots rows [] [] limit least r = tt
  fringe_roots rows [] (j ∷ js) limit least r = record {
    tree = r.tree;
    queued = record { inside = λ m h. r.queued.inside m (elim h [ inl o ↦ inr o | inr o ↦ absurd o ]); once = (r.queued.once.1, tt); apart = λ m a b. b };
  }
  fringe_roots rows (i ∷ is) later limit least r = summed_roots rows i is later limit least r (get_or rows i no_row) _

  pub fringe_keeps : (s t : State Fringe) → RootedFringe M start s → more t ≡ fringe.fringe K M guess cap s.waits.now s → RootedFringe M start t
  fringe_keeps s t r e = kept (RootedFringe M start) t _ (fringe_roots s.rows s.waits.now s.waits.later s.waits.limit s.waits.least r) e
