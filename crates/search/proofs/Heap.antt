-- What waits in a heap: the first out, and what stays; a row's roads are followed, and its entries stay fair.
use Rattle.std.proofs.Common.{◌↔◌, ◌≡◌, ℕ, ◌+◌, ◌<◌, ◌≤◌, true, List, [], ◌∷◌, ◌++◌, length, get_or, set, Some, None, Option, Ok, refl, ◌∙◌, inl, inr, arith}
use Rattle.std.specs.Prelude.{not, ◌==◌}
use Rattle.std.proofs.lemmas.Grind.{common_steps, elements}
use Rattle.kinds.specs.Kind.{Kind}
use Rattle.graph.specs.Meaning.{Meaning, IsLawful}
use Rattle.search.specs.Capacity.{Capacity}
use Rattle.search.specs.Rows.{Row, no_row}
use Rattle.search.specs.Roads.{State, Open, Keeps, follow, from_here, with_parent}
use Rattle.search.specs.Queue.{Entry, first_out, without}
use Rattle.search.specs.Best.{Estimate, by_sum, by_guess, pushed, push, begin}
use Rattle.search.specs.Members.{In}
use Rattle.search.proofs.Places.{At, in_push, in_filter}
use Rattle.search.proofs.Invariant.{Inv, AllDue, Grown, begins}
use Rattle.search.proofs.Placed.{Placed, grows}
use Rattle.search.proofs.Tied.{tied_grows}
use Rattle.search.proofs.Relaxed.{follow_keeps}

pub first_none : (es : List Entry) → first_out es ≡ None → (x : Entry) → In x es → ⊥
first_none [] e x h = h
first_none (y ∷ es) e x h = grind arith

-- the first out is there, and no estimate is less than its own
pub first_in : (es : List Entry) (e : Entry) → first_out es ≡ Some e → In e es
first_in [] e q = cc
first_in (x ∷ es) e q = grind (arith, common_steps, first_in es)

first_least : (es : List Entry) (x : Entry) → In x es → (e : Entry) → first_out es ≡ Some e → e.estimate ≤ x.estimate
first_least [] x h e q = cc
first_least (y ∷ es) x h e q = grind (arith, common_steps, first_least es x, first_none es)

pub without_in : (j : ℕ) (x : Entry) (es : List Entry) → In x (without j es) ↔ (In x es × (x.row ≡ j → ⊥))
without_in j x es = let i = in_filter (λ e. not (e.row == j)) x es in (λ h. grind (arith, common_steps, i.0), λ h. i.1 (h.0, grind (arith, common_steps, h.1)))

-- a row waits: it has an entry
pub record Waits (heap : List Entry) (j : ℕ) : Type 0 where
  pub entry : Entry
  pub there : In entry heap
  pub same : entry.row ≡ j

waits_without : (i : ℕ) (heap : List Entry) (m : ℕ) → (m ≡ i → ⊥) → Waits heap m → Waits (without i heap) m
waits_without i heap m n b = record { entry = b.entry; there = (without_in i b.entry heap).1 (b.there, λ x. n (cc)); same = b.same }

-- an entry's row is there, and its estimate is not below the row's cost, nor above that with the guess
pub record Fair (guess : ℕ → ℕ) (rows : List Row) (e : Entry) : Type 0 where
  pub within : e.row < length rows
  pub low : (get_or rows e.row no_row).cost ≤ e.estimate
  pub high : e.estimate ≤ (get_or rows e.row no_row).cost + guess (get_or rows e.row no_row).key

-- an estimate is the sum with a guess
pub record By (estimate : Estimate) (guess : ℕ → ℕ) : Type 0 where
  pub is : (road : Open) (e : ℕ) → estimate road ≡ Some e → e ≡ road.sum + guess road.key

pub sums : By by_sum (λ k. 0)
sums = record { is = λ road e q. grind arith }

pub guesses : (K : Kind) (guess : ℕ → ℕ) → By (by_guess K guess) guess
guesses K guess = record { is = λ road e q. grind (arith, common_steps) }

module _ {guess : ℕ → ℕ} {estimate : Estimate} (by : By estimate guess) (was : List Row) where
  record Held (rows : List Row) (heap : List Entry) : Type 0 where
    fair : (e : Entry) → In e heap → Fair guess rows e
    grown : Grown was rows

  abbrev new : Open → ℕ → Entry
  new road j = record { row = j; estimate = road.sum + guess road.key; cost = road.sum }

  pushed_new : (road : Open) (j : ℕ) (es es' : List Entry) → push estimate road j es ≡ Ok es' → es' ≡ without j es ++ new road j ∷ []
  pushed_new road j es es' e = go (estimate road) refl e
    where
      go : (o : Option ℕ) → estimate road ≡ o → pushed o road j es ≡ Ok es' → es' ≡ without j es ++ new road j ∷ []
      go (Some x) q e = let z = by.is road x q in grind arith
      go None q e = cc

  enters : (road : Open) (j : ℕ) (es es' : List Entry) → push estimate road j es ≡ Ok es' → Waits es' j × ((m : ℕ) → (m ≡ j → ⊥) → Waits es m → Waits es' m)
  enters road j es es' e = rw (pushed_new road j es es' e) (
    record { entry = new road j; there = (in_push _ _ (without j es)).1 (inr refl); same = refl },
    λ m n b. let w = waits_without j es m n b in record { entry = w.entry; there = (in_push w.entry _ (without j es)).1 (inl w.there); same = w.same },
  )

  grown_on : (rows rows' : List Row) → Grown was rows → Grown rows rows' → Grown was rows'
  grown_on rows rows' g h j r a = let x = g j r a in let y = h j x.0 x.1 in (y.0, y.1, y.2 ∙ x.2, omega arith)

  held_placed : (road : Open) (j : ℕ) (rows rows' : List Row) (es es' : List Entry) → Placed rows rows' j (from_here road) → push estimate road j es ≡ Ok es' → Held rows es → Held rows' es'
  held_placed road j rows rows' es es' p e h = rw (pushed_new road j es es' e) (record {
    fair = λ x a. grind (arith, elements, (in_push x (new road j) (without j es)).0 a, (without_in j x es).0, h.fair x, p.to x.row (get_or rows x.row no_row), p.here);
    grown = grown_on rows rows' h.grown (grows rows rows' j _ p);
  })

  held_tied : (j i : ℕ) (old : Row) (rows : List Row) (es : List Entry) → At rows j old → Held rows es → Held (set rows j (with_parent old i)) es
  held_tied j i old rows es a h = record {
    fair = λ x b. grind (arith, elements, h.fair x b);
    grown = grown_on rows _ h.grown (tied_grows rows j old i a);
  }

module _ (K : Kind) (M : Meaning) {guess : ℕ → ℕ} {estimate : Estimate} (by : By estimate guess) (cap : Capacity) (keeps : Keeps) (law : IsLawful M guess) (start : ℕ) where
  -- what holds between turns
  pub record Going (Took : ℕ → Type 0) (s : State (List Entry)) : Type 0 where
    pub inv : Inv keeps M start Took AllDue (Waits s.waits) s.rows
    pub fair : (e : Entry) → In e s.waits → Fair guess s.rows e

  module _ (Took : ℕ → Type 0) (s : State (List Entry)) (g : Going Took s) (e : Entry) (f : first_out s.waits ≡ Some e) (r : Row) (is : get_or s.rows e.row no_row ≡ r) where
    -- the row that is taken costs no more than its estimate, and that is no more than any waiting row costs with its guess
    pub first_low : r.cost ≤ e.estimate
    first_low = grind (arith, g.fair e (first_in s.waits e f))

    pub first_under : (j : ℕ) (q : Row) → At s.rows j q → Waits s.waits j → e.estimate ≤ q.cost + guess q.key
    first_under j q a b = grind (arith, elements, first_least s.waits b.entry b.there e f, g.fair b.entry b.there)

    pub take_keeps : (Took' : ℕ → Type 0) → At s.rows e.row r → ((m : ℕ) → Took m → Took' m) → (M.goal r.key ≡ true → Took' e.row) → (t : State (List Entry))
        → follow K M cap keeps (push estimate) e.row (record { rows = s.rows; waits = without e.row s.waits }) ≡ Ok t → Going Took' t × Grown s.rows t.rows
    take_keeps Took' a on took t q =
        let h : Held by s.rows s.rows (without e.row s.waits) = record { fair = λ x b. g.fair x ((without_in e.row x s.waits).0 b).0; grown = λ j p b. (p, b, refl, omega arith) } in
        let k = follow_keeps K M cap keeps (push estimate) guess law start Took' Waits (Held by s.rows) (enters by s.rows) (held_placed by s.rows) (λ z. held_tied by s.rows)
        e.row r Took (Waits s.waits) (record { rows = s.rows; waits = without e.row s.waits }) t a is g.inv on (waits_without e.row s.waits) took h q in
        (record { inv = k.inv; fair = k.extra.fair }, k.extra.grown)

  pub begin_going : M.held start ≡ true → (Took : ℕ → Type 0) → Going Took (begin start)
  begin_going h Took = record {
    inv = begins keeps M start Took _ h (record { entry = record { row = 0; estimate = 0; cost = 0 }; there = inl refl; same = refl });
    fair = λ e h. grind arith;
  }
