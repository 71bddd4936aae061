-- What moves an entry up or down keeps the order of the others.
use Rattle.std.proofs.Common.{◌≡◌, ℕ, zero, suc, ◌-◌, ◌/◌, ◌<◌, ◌≤◌, List, length, arith}
use Rattle.std.specs.List.{swap}
use Rattle.std.proofs.lemmas.List.Edits.{length-swap, swapped_from_swap}
use Rattle.store.specs.declared.slots.Entry.{Entry}
use Rattle.store.specs.Slots.{IsAhead, nth, IsChild, IsHeap, IsHeapBut, IsOver, IsUnder}

module _ {C : Type 0} (w : C → ℕ) where
  -- one step up: the entry at h goes to its parent u
  pub raised : (es fs : List (Entry C)) (h u : ℕ) → IsChild u h → h < length es → fs ≡ swap es h u → IsHeapBut w es h → IsHeapBut w fs u
  raised es fs h u c lh q o d =
      let l = o d in
      let x = swapped_from_swap es fs h u d lh (omega arith) q in
      let long = length-swap es h u in (
        λ p i a b ni np. let lp = l.0 p i a in let lu = l.1 u i c in let xi = x.2 i in let xp = x.2 p in grind arith,
        λ p i a b e.
            let top = l.0 p u a in let li = l.0 u i b in let xi = x.2 i in let xp = x.2 p in grind arith,
      )

  -- and comes out before its children there
  pub raised_over : (es fs : List (Entry C)) (h u : ℕ) → IsChild u h → h < length es → fs ≡ swap es h u → IsHeapBut w es h → ((d : Entry C) → IsAhead w (nth es d h) (nth es d u)) → IsOver w fs u
  raised_over es fs h u c lh q o up d i a b =
      let x = swapped_from_swap es fs h u d lh (omega arith) q in
      let long = length-swap es h u in
      let lu = (o d).0 u i a in
      let t = up d in
      let xi = x.2 i in
      grind arith

  -- one step down: the entry at h changes places with its child c, which is ahead of the other child
  pub lowered : (es fs : List (Entry C)) (h c : ℕ) → IsChild h c → c < length es → fs ≡ swap es h c → ((d : Entry C) (i : ℕ) → IsChild h i → i < length es → IsAhead w (nth es d c) (nth es d i)) → IsHeapBut w es h → IsHeapBut w fs c
  lowered es fs h c hc lc q best o d =
      let l = o d in
      let x = swapped_from_swap es fs h c d (omega arith) lc q in
      let long = length-swap es h c in (
        λ p i a b ni np. let lp = l.0 p i a in let lu = l.1 p c in let bi = best d i in let xi = x.2 i in let xp = x.2 p in grind arith,
        λ p i a b e. let li = l.0 c i b in let xi = x.2 i in grind arith,
      )

  -- where the entry at h stands right with its parent and its children, all is in order
  pub in_order : (es : List (Entry C)) (h : ℕ) → IsUnder w es h → IsHeapBut w es h → IsOver w es h → IsHeap w es
  in_order es h under o over d p i a b = let u = under d p in let v = over d i in let lp = (o d).0 p i a b in grind arith

  -- where all is in order, the entry at h may change, and entries may go from the end
  pub loosened : (es fs : List (Entry C)) (h : ℕ) → IsHeap w es → ((m : ℕ) → m < length fs → (m ≡ h → ⊥) → (m < length es) × ((d : Entry C) → nth fs d m ≡ nth es d m)) → IsHeapBut w fs h
  loosened es fs h o k d = (
    λ p i a b ni np. let ki = k i b ni in let op = o d p i a in let ep = (k p (omega arith) np).1 d in let ei = ki.1 d in grind arith,
    λ p i a b c.
        let ki = k i c (λ q. omega arith) in
        let ep = (k p (omega arith) (λ q. omega arith)).1 d in
        let ei = ki.1 d in
        let op = o d p h a in
        let oi = o d h i b in
        grind arith,
  )

  -- the entry at the top is ahead of each
  pub top_ahead : (es : List (Entry C)) → IsHeap w es → (d : Entry C) (b k : ℕ) → k ≤ b → k < length es → IsAhead w (nth es d 0) (nth es d k)
  top_ahead es o d zero k le lt = let q : k ≡ 0 = omega arith in grind arith
  top_ahead es o d (suc b) k le lt =
      let u : ℕ = (k - 1) / 2 in
      let s = top_ahead es o d b u in
      let v = o d u k in
      grind arith
