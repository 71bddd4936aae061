-- dijkstra, astar and astar_bag end.
use Rattle.std.proofs.Common.{◌≡◌, ℕ, ◌+◌, ◌<◌, ◌≤◌, Bool, true, false, List, [], ◌∷◌, length, get_or, Some, None, Option, Ok, refl, arith}
use Rattle.std.proofs.lemmas.Grind.{common_steps}
use Rattle.kinds.specs.Kind.{Kind, IsBounded}
use Rattle.graph.specs.Meaning.{Meaning}
use Rattle.search.specs.Capacity.{Capacity}
use Rattle.search.specs.Ends.{Turned, more}
use Rattle.search.specs.Rows.{no_row}
use Rattle.search.specs.Roads.{State, Open, Keeps, one, all, follow}
use Rattle.search.specs.Queue.{Entry, first_out, without}
use Rattle.search.specs.Best as best
use Rattle.search.specs.Best.{Estimate, by_guess, pushed, push}
use Rattle.search.specs.Bag as bag
use Rattle.search.specs.Bag.{Bag}
use Rattle.search.proofs.Once.{Spends, turned_spends, spent, ComesToOne, comes}
use Rattle.search.proofs.Changes.{went}
use Rattle.search.proofs.Falls.{fewer, potential, follow_falls}

-- the first out leaves
length_out : (es : List Entry) (x : Entry) → first_out es ≡ Some x → length (without x.row es) < length es
length_out [] x h = cc
length_out (e ∷ es) x h = grind (arith, common_steps, length_out es x, fewer {A = Entry})

abbrev Any : {A : Type 0} → A → Type 0
Any a = Unit {0}

-- what a search by a heap uses up
pub heap_potential : Kind → Capacity → State (List Entry) → ℕ
heap_potential K cap = potential K cap 1 length

module _ (K : Kind) (M : Meaning) (estimate : Estimate) (cap : Capacity) (bound : IsBounded K) where
  pushes : (road : Open) (j : ℕ) (es es' : List Entry) → push estimate road j es ≡ Ok es' → Unit {0} → Unit {0} × (length es' ≤ length es + 1)
  pushes road j es es' e u = (tt, go (estimate road) e)
    where
      go : (o : Option ℕ) → pushed o road j es ≡ Ok es' → length es' ≤ length es + 1
      go (Some x) e = grind (arith, common_steps, fewer {A = Entry})
      go None e = cc

  -- the first out is taken, and its roads are followed
  taken_falls : (keeps : Keeps) (s t : State (List Entry)) (e : Entry) → first_out s.waits ≡ Some e → follow K M cap keeps (push estimate) e.row (record { rows = s.rows; waits = without e.row s.waits }) ≡ Ok t
      → heap_potential K cap t < heap_potential K cap s
  unfolding heap_potential potential
  taken_falls keeps s t e f q = omega (arith, length_out s.waits e f, (follow_falls K M cap keeps (push estimate) bound Any 1 length pushes e.row _ t tt q).1)

  best_spends : (s : State (List Entry)) (o : Option Entry) → first_out s.waits ≡ o → Spends Any (heap_potential K cap) s (best.best K M estimate cap o s)
  unfolding best.best best.taken
  best_spends s None f = tt
  best_spends s (Some e) f = go (M.goal (get_or s.rows e.row no_row).key)
    where
      go : (b : Bool) → Spends Any (heap_potential K cap) s (best.taken K M estimate cap b e.row s)
      go true = tt
      go false = turned_spends Any (heap_potential K cap) s _ (λ t q. (tt, taken_falls one s t e f q))

  abbrev best_turn : State (List Entry) → Turned (State (List Entry))
  best_turn s = best.best K M estimate cap (first_out s.waits) s

  pub best_falls : (s t : State (List Entry)) → more t ≡ best.best K M estimate cap (first_out s.waits) s → heap_potential K cap t < heap_potential K cap s
  best_falls s t e = (spent Any (heap_potential K cap) s t (best_turn s) (best_spends s (first_out s.waits) refl) e).1

  pub best_ends : (start : ℕ) → ComesToOne best_turn (best.begin start)
  best_ends start = comes best_turn Any (heap_potential K cap) (λ s u. best_spends s (first_out s.waits) refl) (best.begin start) tt

module _ (K : Kind) (M : Meaning) (guess : ℕ → ℕ) (cap : Capacity) (bound : IsBounded K) where
  abbrev pub bag_potential : Bag → ℕ
  bag_potential b = heap_potential K cap b.search

  bag_spends : (b : Bag) (o : Option Entry) → first_out b.search.waits ≡ o → Spends Any bag_potential b (bag.bag K M guess cap o b)
  unfolding bag.bag bag.taken
  bag_spends b None f = tt
  bag_spends b (Some e) f = go (bag.is_past b.cost e.estimate)
    where
      go : (past : Bool) → Spends Any bag_potential b (bag.taken K M guess cap past e.row (get_or b.search.rows e.row no_row) b)
      go true = tt
      go false = turned_spends Any bag_potential b _ (λ t q. let y = went _ _ t q in let z : t.search ≡ y.0 = grind arith in (tt, rw z (taken_falls K M (by_guess K guess) cap bound all b.search y.0 e f y.1)))

  abbrev bag_turn : Bag → Turned Bag
  bag_turn b = bag.bag K M guess cap (first_out b.search.waits) b

  pub bag_falls : (b c : Bag) → more c ≡ bag.bag K M guess cap (first_out b.search.waits) b → heap_potential K cap c.search < heap_potential K cap b.search
  bag_falls b c e = (spent Any bag_potential b c (bag_turn b) (bag_spends b (first_out b.search.waits) refl) e).1

  pub bag_ends : (start : ℕ) → ComesToOne bag_turn (bag.begin start)
  bag_ends start = comes bag_turn Any bag_potential (λ b u. bag_spends b (first_out b.search.waits) refl) (bag.begin start) tt
