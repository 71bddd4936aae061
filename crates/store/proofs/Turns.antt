-- A push and a pop of the entries are a push and a pop of the list.
use Rattle.std.proofs.Common.{◌≡◌, ℕ, ◌+◌, ◌-◌, ◌<◌, ◌≤◌, max, true, false, eqb, List, [], ◌∷◌, ◌++◌, map, length, take, set, Option, Some, None, sym, refl, ap, ◌∙◌, ⊎_elim, length-append, arith}
use Rattle.std.specs.List.{All, Contains, IsDistinct, remove, swap_remove}
use Rattle.std.specs.List.Sorted.{IsPermutation}
use Rattle.std.proofs.lemmas.List.{map-append, length-map, length-set, length-take-le, get_or_default, get_or_append_left, get_or-set_same, get_or-set_other}
use Rattle.std.proofs.Math.Seq.{take-set-lt}
use Rattle.std.proofs.lemmas.Grind.{common_steps}
use Rattle.std.proofs.lemmas.List.Elements.{Contains-get_or, All-contains, All-cons, All-map, All-tail, recursion_from_All}
use Rattle.std.proofs.lemmas.List.Sorted.{All-permutation, IsPermutation-sym, IsPermutation-trans, IsPermutation-remove, IsPermutation-swap_remove, IsPermutation-to_front, length_permutation}
use Rattle.std.proofs.lemmas.Map.Keys.{IsDistinct-tail, IsDistinct-cons, IsDistinct-from_apart, apart_from_distinct}
use Rattle.std.proofs.lemmas.Map.Steps.{length-le_from_distinct_below}
use Rattle.std.proofs.lemmas.Map.Views.{Contains-from_any}
use Rattle.std.proofs.lemmas.Bool.{eqb-true}
use Rattle.store.specs.declared.slots.Entry.{Entry}
use Rattle.store.specs.declared.slots.Slot.{Slot}
use Rattle.store.specs.Slots.{entry_at, nth, entries, filled, seating, Seating, IsAhead, IsPlaceOf, IsApart, IsCounted, IsHeap, IsHeapBut, IsOver, HasHole, IsSound, IsSeating}
use Rattle.store.specs.Queue.{waiting, among, by_push, queue, without, pushed, overtakes, first_out}
use Rattle.store.proofs.Seats.{length_entries, entries_at, entries_less, rows_differ}
use Rattle.store.proofs.Holes.{filled_next, loose_next, over_next}
use Rattle.store.proofs.Sifts.{loosened, top_ahead}
use Rattle.store.proofs.Queues.{here, there, here_or_there, IsClimbing, head_differs, by_push_moves, Contains-from_by_push, Contains-by_push, climb_by_push, differ_permuted, by_push_permuted}

-- an entry with the latest push comes last
among_last : {C : Type 0} (x : Entry C) (l : List (Entry C)) → ((y : Entry C) → Contains l y → y.push < x.push) → among x l ≡ l ++ x ∷ []
among_last x [] h = refl
among_last x (y ∷ ys) h =
    let lt = h y (here y ys) in
    let r = among_last x ys (λ z m. h z (there y ys z m)) in
    grind arith

-- without a row that has no entry
without_none : {C : Type 0} (r : ℕ) (l : List (Entry C)) → ((y : Entry C) → Contains l y → y.row ≡ r → ⊥) → without r (map waiting l) ≡ map waiting l
without_none r [] h = refl
without_none r (x ∷ xs) h =
    let ne = h x (here x xs) in
    let k = without_none r xs (λ y m. h y (there x xs y m)) in
    grind arith

without_among : {C : Type 0} (x : Entry C) (l : List (Entry C)) → ((y : Entry C) → Contains l y → y.row ≡ x.row → ⊥) → without x.row (map waiting (among x l)) ≡ map waiting l
without_among x [] h = grind arith
without_among x (y ∷ ys) h =
    let ne = h y (here y ys) in
    let k = without_none x.row ys (λ z m. h z (there y ys z m)) in
    let r = without_among x ys (λ z m. h z (there y ys z m)) in
    grind arith

-- the queue without one of its entries
pub queue_rest : {C : Type 0} (es rest : List (Entry C)) (x : Entry C) → IsPermutation es (x ∷ rest) → IsApart es → IsDistinct (λ a b. eqb a.row b.row) es → without x.row (queue es) ≡ queue rest
unfolding queue
queue_rest {C} es rest x p a r =
    rw (by_push_permuted es (x ∷ rest) p a)
    (without_among x (by_push rest) (λ y m. head_differs (λ (e : Entry C). e.row) x y rest (differ_permuted (λ (e : Entry C). e.row) es (x ∷ rest) p r) (Contains-from_by_push y rest m)))

-- a queue that has no entry of a row
pub without_queue : {C : Type 0} (r : ℕ) (es : List (Entry C)) → All (λ y. y.row ≡ r → ⊥) es → without r (queue es) ≡ queue es
unfolding queue
without_queue {C} r es h = without_none r (by_push es) (λ y m. All-contains (λ (y : Entry C). y.row ≡ r → ⊥) es y h (Contains-from_by_push y es m))

-- and with a last one
pub queue_last : {C : Type 0} (es rest : List (Entry C)) (x : Entry C) → IsPermutation es (x ∷ rest) → IsApart es → IsCounted rest x.push → queue es ≡ queue rest ++ waiting x ∷ []
unfolding queue
queue_last {C} es rest x p a h =
    rw (by_push_permuted es (x ∷ rest) p a, among_last x (by_push rest) (λ y m. All-contains (λ (y : Entry C). y.push < x.push) rest y h (Contains-from_by_push y rest m))) (map-append waiting (by_push rest) (x ∷ []))

pub queue_none : {C : Type 0} → queue {C = C} [] ≡ []
unfolding queue
queue_none = refl

-- each entry waits
pub length_queue : {C : Type 0} (es : List (Entry C)) → length (queue es) ≡ length es
unfolding queue
length_queue es = length-map (by_push es) waiting ∙ length_permutation es (by_push es) (by_push_moves es)

-- an entry ahead of the others is the first out
overtakes_true : {C : Type 0} (w : C → ℕ) (e x : Entry C) → IsAhead w e x → x.push < e.push → overtakes w (waiting e) (waiting x) ≡ true
overtakes_true w e x a lt = grind arith

overtakes_false : {C : Type 0} (w : C → ℕ) (y x : Entry C) → IsAhead w x y → overtakes w (waiting y) (waiting x) ≡ false
overtakes_false w y x a = grind arith

first_kept : {C : Type 0} (w : C → ℕ) (x : Entry C) (l : List (Entry C)) → ((f : Entry C) → Contains l f → overtakes w (waiting f) (waiting x) ≡ false) → first_out w (map waiting (x ∷ l)) ≡ Some (waiting x)
first_kept w x [] h = refl
first_kept w x (y ∷ ys) h =
    let r = first_kept w x ys (λ f m. h f (there y ys f m)) in
    let o = h y (here y ys) in
    grind arith

first_is : {C : Type 0} (w : C → ℕ) (e : Entry C) (l : List (Entry C)) → IsClimbing l → Contains l e → ((f : Entry C) → Contains l f → IsAhead w e f) → first_out w (map waiting l) ≡ Some (waiting e)
first_is w e [] c m h = absurd (omega (arith, m.1))
first_is {C} w e (x ∷ xs) c m h =
    ⊎_elim
    (λ (q : e ≡ x). rw (← q) (first_kept w e xs (λ f k. overtakes_false w f e (h f (there x xs f k)))))
    (λ k. let r = first_is w e xs c.1 k (λ f j. h f (there x xs f j)) in let o = overtakes_true w e x (h x (here x xs)) (c.0 e k) in cc)
    (here_or_there x xs e m)

-- the entry at the top of a heap is the first out
pub top_first : {C : Type 0} (w : C → ℕ) (es : List (Entry C)) (d : Entry C) → 0 < length es → IsApart es → IsHeap w es → first_out w (queue es) ≡ Some (waiting (nth es d 0))
unfolding queue
top_first {C} w es d l0 a o =
    first_is w (nth es d 0) (by_push es) (climb_by_push es a) (Contains-by_push (nth es d 0) es (Contains-get_or es 0 d l0)) (λ f m. ahead f (Contains-from_by_push f es m))
  where
    ahead : (f : Entry C) → Contains es f → IsAhead w (nth es d 0) f
    ahead f m =
        let r = top_ahead w es o f m.0 m.0 (omega arith) m.1 in
        let q = get_or_default es 0 f d l0 in
        grind arith

pub apart_none : {C : Type 0} (es : List (Entry C)) → es ≡ [] → IsApart es
unfolding IsDistinct
apart_none es e = rw e tt

-- all that a push has to show but the order
pub record Pushed {C : Type 0} (es zs : List (Entry C)) (e : Entry C) : Type 0 where
  pub apart : IsApart zs
  pub counted : IsCounted zs (e.push + 1)
  pub queued : queue zs ≡ pushed (queue es) e.row e.estimate e.cost

pushed_beside : {C : Type 0} (es rest zs : List (Entry C)) (e : Entry C) → IsApart rest → IsCounted rest e.push → queue rest ≡ without e.row (queue es) → IsPermutation (e ∷ rest) zs → Pushed es zs e
pushed_beside {C} es rest zs e a co q p =
    let both : IsApart (e ∷ rest) = IsDistinct-cons (λ (a b : Entry C). eqb a.push b.push) e rest (recursion_from_All (λ (y : Entry C). eqb e.push y.push ≡ false) rest (λ k d lk. let l = co k d lk in grind arith)) a in
    let az = differ_permuted (λ (v : Entry C). v.push) (e ∷ rest) zs p both in
    record {
      apart = az;
      counted = All-permutation (λ (v : Entry C). v.push < e.push + 1) (e ∷ rest) zs p (All-cons (λ (v : Entry C). v.push < e.push + 1) e rest (omega arith) (λ k d lk. let l = co k d lk in omega arith));
      queued = queue_last zs rest e (IsPermutation-sym (e ∷ rest) zs p) az co ∙ ap (λ l. l ++ waiting e ∷ []) q;
    }

-- n entries of rows that all differ leave room for one of another row
room : {C : Type 0} (xs : List (Slot C)) (n : ℕ) (e : Entry C) → IsSeating xs n → e.row < length xs → All (λ y. y.row ≡ e.row → ⊥) (entries xs n) → n < length xs
room {C} xs n e k lr c =
    let es : List (Entry C) = entries xs n in
    let l = length_entries xs n k.fits in
    let d : Slot C = record { entry = e; place = 0; order = 0 } in
    let row : Entry C → ℕ = λ v. v.row in
    let rs : List ℕ = map row es in
    let lr' : length rs ≡ n = length-map es row ∙ l in
    let others : IsDistinct eqb rs = IsDistinct-from_apart eqb rs (λ i j z lt lj. let a = apart_from_distinct (λ (a b : Entry C). eqb a.row b.row) es i j e (rows_differ xs n k.fits k.placed) lt (omega arith) in grind (arith, common_steps)) in
    let apart : IsDistinct eqb (e.row ∷ rs) = IsDistinct-cons eqb e.row rs (recursion_from_All (λ y. eqb e.row y ≡ false) rs (All-map (λ y. eqb e.row y ≡ false) row es (λ i z li. let f = c i z li in grind arith))) others in
    let small : All (λ y. y < length xs) (e.row ∷ rs) = All-cons (λ y. y < length xs) e.row rs lr (All-map (λ y. y < length xs) row es (λ i z li. let o = k.placed i d (omega arith) in let x = entries_at xs n i d z k.fits (omega arith) in grind arith)) in
    let few = length-le_from_distinct_below (e.row ∷ rs) (length xs) apart (λ y h. All-contains (λ y. y < length xs) (e.row ∷ rs) y small (Contains-from_any eqb-true y (e.row ∷ rs) h)) in
    omega arith

-- what a push of an entry of a row that has none needs, and has to show: the hole is the place after the last
pub record New {C : Type 0} (w : C → ℕ) (es : List (Entry C)) (xs : List (Slot C)) (n : ℕ) (e : Entry C) : Type 0 where
  pub fits : n + 1 ≤ length xs
  pub row_in : e.row < length xs
  pub hole : HasHole xs (n + 1) n e
  pub loose : IsHeapBut w (filled xs (n + 1) n e) n
  pub over : IsOver w (filled xs (n + 1) n e) n
  pub after : (zs : List (Entry C)) → IsPermutation (filled xs (n + 1) n e) zs → Pushed es zs e

-- and in place of the row's older entry
pub record Again {C : Type 0} (w : C → ℕ) (es : List (Entry C)) (xs : List (Slot C)) (n r : ℕ) (e : Entry C) : Type 0 where
  pub inside : r < n
  pub row_in : e.row < length xs
  pub hole : HasHole xs n r e
  pub heap : IsHeap w (entries xs n)
  pub after : (zs : List (Entry C)) → IsPermutation (filled xs n r e) zs → Pushed es zs e

module _ {C : Type 0} (w : C → ℕ) (xs : List (Slot C)) (n : ℕ) (e : Entry C) (k : IsSeating xs n) (lr : e.row < length xs) (o : IsSound w (entries xs n) e.push) where
  long : length (entries xs n) ≡ n
  long = length_entries xs n k.fits

  new_seen : All (λ y. y.row ≡ e.row → ⊥) (entries xs n) → New w (entries xs n) xs n e
  new_seen fresh =
      let es : List (Entry C) = entries xs n in
      let lt = room xs n e k lr fresh in
      let is : filled xs (n + 1) n e ≡ es ++ e ∷ [] = filled_next xs n e lt in
      record {
        fits = omega arith;
        row_in = lr;
        hole = λ j d lj nj.
            let lj' : j < n = omega arith in
            let pj = k.placed j d lj' in
            let f = fresh j e (omega (arith, long)) in
            let ej = entries_at xs n j d e k.fits lj' in
            grind arith;
        loose = loose_next w xs n e lt o.heaped;
        over = over_next w xs n e lt;
        after = λ zs z. pushed_beside es es zs e o.apart o.counted (sym (without_queue e.row es fresh)) (IsPermutation-trans (e ∷ es) (es ++ e ∷ []) zs (IsPermutation-sym (es ++ e ∷ []) (e ∷ es) (IsPermutation-to_front es e)) (rw is at z));
      }

  again_seen : (r : ℕ) → r < length (entries xs n) → ((d : Entry C) → (nth (entries xs n) d r).row ≡ e.row) → Again w (entries xs n) xs n r e
  again_seen r l own =
      let es : List (Entry C) = entries xs n in
      let old : Entry C = nth es e r in
      let rest : List (Entry C) = remove es r in
      let lt : r < n = omega (arith, long) in
      let p : IsPermutation es (old ∷ rest) = IsPermutation-remove es r old l (get_or_default es r e old l) in
      let same : remove (set es r e) r ≡ rest = grind (arith, common_steps) in
      let mixed : IsPermutation (set es r e) (e ∷ rest) = rw same at (IsPermutation-remove (set es r e) r e (rw length-set l) (sym (get_or-set_same es r e e l))) in
      let a = IsDistinct-tail (λ (a b : Entry C). eqb a.push b.push) old rest (differ_permuted (λ (v : Entry C). v.push) es (old ∷ rest) p o.apart) in
      let co = All-tail (λ (v : Entry C). v.push < e.push) old rest (All-permutation (λ (v : Entry C). v.push < e.push) es (old ∷ rest) p o.counted) in
      let q = rw (own e) at (queue_rest es rest old p o.apart (rows_differ xs n k.fits k.placed)) in
      record {
        inside = lt;
        row_in = lr;
        hole = λ j d lj nj.
            let pj = k.placed j d lj in
            let pr = k.placed r d lt in
            let own' = own d.entry in
            let er = entries_at xs n r d d.entry k.fits lt in
            grind arith;
        heap = o.heaped;
        after = λ zs z. pushed_beside es rest zs e a co (sym q) (IsPermutation-trans (e ∷ rest) (set es r e) zs (IsPermutation-sym (set es r e) (e ∷ rest) mixed) z);
      }

-- the same of the value that the entries are seen as
pub new_at : {C : Type 0} (w : C → ℕ) {xs : List (Slot C)} {n : ℕ} (e : Entry C) {v : Seating C} → seating xs n ≡ v → IsSeating xs n → e.row < v.rows → IsSound w v.entries e.push → IsPlaceOf v.entries e.row None → New w v.entries xs n e
new_at w {xs} {n} e is k lr o f = rw (← is) (new_seen w xs n e k (rw (← is) at lr) (rw (← is) at o) (rw (← is) at f))

pub again_at : {C : Type 0} (w : C → ℕ) (r : ℕ) {xs : List (Slot C)} {n : ℕ} (e : Entry C) {v : Seating C} → seating xs n ≡ v → IsSeating xs n → e.row < v.rows → IsSound w v.entries e.push → IsPlaceOf v.entries e.row (Some r) → Again w v.entries xs n r e
again_at w r {xs} {n} e is k lr o p = rw (← is) (again_seen w xs n e k (rw (← is) at lr) (rw (← is) at o) r (rw (← is) at p.0) (rw (← is) at p.1))

-- all that a pop has to show but the order
pub record Popped {C : Type 0} (es zs : List (Entry C)) (first : Entry C) : Type 0 where
  pub apart : IsApart zs
  pub counted : (c : ℕ) → IsCounted es c → IsCounted zs c
  pub queued : queue zs ≡ without first.row (queue es)
  pub size : length zs + 1 ≡ length es

pub popped : {C : Type 0} (es zs : List (Entry C)) (first : Entry C) → IsApart es → IsDistinct (λ a b. eqb a.row b.row) es → IsPermutation es (first ∷ zs) → Popped es zs first
popped {C} es zs first a r p =
    record {
      apart = IsDistinct-tail (λ (a b : Entry C). eqb a.push b.push) first zs (differ_permuted (λ (v : Entry C). v.push) es (first ∷ zs) p a);
      counted = λ c co. All-tail (λ (v : Entry C). v.push < c) first zs (All-permutation (λ (v : Entry C). v.push < c) es (first ∷ zs) p co);
      queued = sym (queue_rest es zs first p a r);
      size = let z = length_permutation es (first ∷ zs) p in omega arith;
    }

-- the hole at the first place, into which the last entry goes
pub record Taken {C : Type 0} (w : C → ℕ) (es : List (Entry C)) (xs : List (Slot C)) (m : ℕ) (first last : Entry C) : Type 0 where
  pub row_in : last.row < length xs
  pub hole : HasHole xs m 0 last
  pub loose : IsHeapBut w (filled xs m 0 last) 0
  pub mixed : IsPermutation es (first ∷ filled xs m 0 last)

pub taken : {C : Type 0} (w : C → ℕ) (xs : List (Slot C)) (n m : ℕ) (d₀ d₁ : Slot C) → m + 1 ≡ n → 0 < m → IsSeating xs n → IsHeap w (entries xs n) → Taken w (entries xs n) xs m (entry_at xs d₀ 0) (entry_at xs d₁ m)
taken {C} w xs n m d₀ d₁ mn l0 k h =
    let es : List (Entry C) = entries xs n in
    let first : Entry C = entry_at xs d₀ 0 in
    let last : Entry C = entry_at xs d₁ m in
    let l = length_entries xs n k.fits in
    let km : length es - 1 ≡ m = omega arith in
    let is : filled xs m 0 last ≡ take m (set es 0 last) = ap (λ l. set l 0 last) (entries_less xs m n (omega arith)) ∙ sym (take-set-lt m es 0 last l0) in
    let rest : swap_remove es 0 first ≡ filled xs m 0 last = rw (km, entries_at xs n m d₁ first k.fits (omega arith)) (sym is) in
    record {
      row_in = (k.placed m d₁ (omega arith)).0;
      hole = λ j d lj nj.
          let pj = k.placed j d (omega arith) in
          let pm = k.placed m d (omega arith) in
          let q = get_or_default xs m d₁ d (omega (arith, k.fits)) in
          grind arith;
      loose = rw is (loosened w es (take m (set es 0 last)) 0 h (λ i li ni. let lm : i < m = omega (arith, length-take-le m (set es 0 last) (omega (arith, length-set es 0 last))) in (omega arith, λ d. grind (arith, common_steps))));
      mixed = rw rest at (IsPermutation-swap_remove es 0 first (omega arith) (sym (entries_at xs n 0 d₀ first k.fits (omega arith))));
    }

-- a lone entry goes
pub last_taken : {C : Type 0} (xs : List (Slot C)) (n : ℕ) (d : Slot C) → n ≡ 1 → n ≤ length xs → IsPermutation (entries xs n) (entry_at xs d 0 ∷ [])
last_taken {C} xs n d q ln =
    let l = length_entries xs n ln in
    let z : length (entries xs n) - 1 ≡ 0 = omega arith in
    rw z at (IsPermutation-swap_remove (entries xs n) 0 (entry_at xs d 0) (omega arith) (sym (entries_at xs n 0 d (entry_at xs d 0) ln (omega arith))))

pub top_out : {C : Type 0} (w : C → ℕ) (xs : List (Slot C)) (n : ℕ) (d : Slot C) → 0 < n → n ≤ length xs → IsApart (entries xs n) → IsHeap w (entries xs n) → Some (waiting (entry_at xs d 0)) ≡ first_out w (queue (entries xs n))
top_out w xs n d l0 ln a h =
    rw (top_first w (entries xs n) (entry_at xs d 0) (omega (arith, length_entries xs n ln)) a h, entries_at xs n 0 d (entry_at xs d 0) ln l0) refl
