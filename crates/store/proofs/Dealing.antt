-- What the passes of a deal do, and what the whole keeps.
use Rattle.std.proofs.Common.{◌≡◌, ℕ, ◌<◌, ◌≤◌, ltb, eqb, List, [], ◌∷◌, ◌++◌, map, length, get_or, take, drop, refl, ap, ◌∙◌, arith}
use mathlib.Core.List.{map-map}
use Rattle.std.proofs.lemmas.List.{get_or-map, length-append, length-map, map-append, take-append-drop, take_at}
use Rattle.std.proofs.lemmas.List.Elements.{Contains-get_or}
use Rattle.std.proofs.lemmas.Grind.{common_steps}
use Rattle.std.proofs.lemmas.Map.Keys.{IsDistinct-from_apart, apart_from_distinct}
use Rattle.std.specs.List.{filter}
use Rattle.store.specs.declared.slots.Entry.{Entry}
use Rattle.store.specs.declared.slots.Slot.{Slot}
use Rattle.store.specs.Slots.{entry_at, entry_of, place_of, entries, IsApart, IsHeap, IsSound, IsSeating}
use Rattle.store.specs.Queue.{waiting, by_push, queue}
use Rattle.store.specs.Deal.{dealt, earlier, all_dealt, numbered}
use Rattle.store.proofs.Fronts.{length_front}
use Rattle.store.proofs.Seats.{entries_at}
use Rattle.store.proofs.Deals.{earlier_le, earlier_lt, earlier_fits, by_push_dealt}

module _ {C : Type 0} where
  pub count_earlier : (a : ℕ) (xs : List (Slot C)) → length (filter (λ s. ltb s.entry.push a) xs) ≡ earlier a (map entry_of xs)
  count_earlier a [] = refl
  count_earlier a (x ∷ xs) = let z = count_earlier a xs in grind arith

  -- where the first i slots are numbered, the entries are what they were
  pub entries_kept : (xs : List (Slot C)) (i : ℕ) → map entry_of (map (numbered (map entry_of xs)) (take i xs) ++ drop i xs) ≡ map entry_of xs
  entries_kept xs i = rw (map-append, map-map, ← map-append entry_of (take i xs) (drop i xs), take-append-drop)

  -- slots of which those in front are dealt anew
  module _ (xs ys : List (Slot C)) (n : ℕ) (ln : n ≤ length xs) (e : map entry_of ys ≡ all_dealt (entries xs n)) (p : map place_of ys ≡ map place_of (take n xs)) where
    long : length ys ≡ n
    long = omega (arith, length-map ys place_of, ap length p, length_front place_of xs n ln)

    -- the entries are those dealt anew
    pub dealt_is : entries (ys ++ drop n xs) n ≡ all_dealt (entries xs n)
    dealt_is = rw (take_at ys (drop n xs) n long) e

    row_kept : (k : ℕ) (d : Slot C) → k < n → (entry_at (ys ++ drop n xs) d k).row ≡ (entry_at xs d k).row
    row_kept k d lk =
        let es : List (Entry C) = entries xs n in
        let l = long in
        let new = entries_at (ys ++ drop n xs) n k d d.entry (omega (arith, length-append ys (drop n xs))) lk in
        let old = entries_at xs n k d d.entry ln lk in
        let same = get_or-map (dealt (λ a. earlier a es)) es k d.entry d.entry (omega (arith, length_front entry_of xs n ln)) in
        let is = dealt_is in
        grind arith

    place_kept : (k : ℕ) (d : Slot C) → (get_or (ys ++ drop n xs) k d).place ≡ (get_or xs k d).place
    place_kept k d =
        let l = long in
        let r : get_or (map place_of ys) k d.place ≡ get_or (map place_of (take n xs)) k d.place = cc in
        grind (arith, common_steps)

    pub dealt_kept : IsSeating xs n → IsSeating (ys ++ drop n xs) n
    dealt_kept k =
        let l = long in
        let all : length (ys ++ drop n xs) ≡ length xs = grind (arith, common_steps) in
        record {
          fits = omega (arith, k.fits);
          few = omega (arith, k.few);
          placed = λ i d li.
              let o = k.placed i d li in
              let r = row_kept i d li in
              let q = place_kept (entry_at (ys ++ drop n xs) d i).row d in
              grind arith;
        }

  module _ (es : List (Entry C)) where
    abbrev pub anew : ℕ → ℕ
    anew p = earlier p es

    pub dealt_sound : (w : C → ℕ) → IsApart es → IsHeap w es → IsSound w (all_dealt es) (length es)
    dealt_sound w a h = record {
      apart = IsDistinct-from_apart (λ (x y : Entry C). eqb x.push y.push) (all_dealt es)
          (λ i j d lt lj'.
          let lj : j < length es = omega (arith, length-map es (dealt anew)) in
          let x : Entry C = get_or es i d in
          let y : Entry C = get_or es j d in
          let ne = apart_from_distinct (λ (x y : Entry C). eqb x.push y.push) es i j d a lt lj in
          let up = earlier_lt x y.push es (Contains-get_or es i d (omega arith)) in
          let down = earlier_lt y x.push es (Contains-get_or es j d lj) in
          grind (arith, common_steps));
      counted = λ k d lk'.
          let lk : k < length es = omega (arith, length-map es (dealt anew)) in
          let b = earlier_fits (get_or es k d) es (Contains-get_or es k d lk) in
          grind (arith, common_steps);
      heaped = λ d p i c l'.
          let l : i < length es = omega (arith, length-map es (dealt anew)) in
          let o = h d p i c l in
          let b = earlier_le (get_or es p d).push (get_or es i d).push es in
          grind (arith, common_steps);
    }

    pub dealt_queue : queue (all_dealt es) ≡ queue es
    unfolding queue
    dealt_queue = ap (map waiting) (by_push_dealt anew es (λ x y mx my lt. earlier_lt x y.push es mx lt)) ∙ map-map waiting (dealt anew) (by_push es)
