-- What waits in the code's heap and queues, and the definition's.
use Rattle.std.specs.Option.{option_map}
use Rattle.std.proofs.Common.{◌≡◌, ℕ, ◌<◌, ◌≤◌, List, [], ◌∷◌, ◌++◌, map, Some, None, refl, arith}
use Rattle.std.specs.List.{AllByRecursion}
use Rattle.std.proofs.lemmas.List.{map-append}
use Rattle.std.proofs.lemmas.Grind.{common_steps}
use Rattle.store.specs.declared.slots.Waiting.{Waiting}
use Rattle.store.specs.Queue.{without as without₀, first_out as first_out₀}
use Rattle.queues.specs.Lists.{without as left_of}
use Rattle.queues.specs.Queues.{front, behind}
use Rattle.planner.proofs.Maps.{below_push}
use Rattle.search.specs.Queue.{without, first_out}
use Rattle.planner.specs.Standing.{Below}
use Rattle.planner.specs.Entries.{entry_of}

-- all that waits is below n
abbrev pub Under : {C : Type 0} → ℕ → List (Waiting C) → Type 0
Under n q = AllByRecursion (λ x. x.row < n) q

module _ {C : Type 0} (weight : C → ℕ) where
  pub without_entries : (j : ℕ) (q : List (Waiting C)) → without j (map (entry_of weight) q) ≡ map (entry_of weight) (without₀ j q)
  without_entries j [] = refl
  without_entries j (x ∷ q) = grind (arith, without_entries j q)

  pub first_entries : (q : List (Waiting C)) → first_out (map (entry_of weight) q) ≡ option_map (entry_of weight) (first_out₀ weight q)
  first_entries [] = refl
  first_entries (x ∷ q) = grind (arith, first_entries q)

  pub below_first : (n : ℕ) (q : List (Waiting C)) (x : Waiting C) → Under n q → first_out₀ weight q ≡ Some x → x.row < n
  below_first n [] x b e = cc
  below_first n (y ∷ q) x b e = grind (arith, below_first n q)

module _ {C : Type 0} where
  pub under_more : (m n : ℕ) (q : List (Waiting C)) → m ≤ n → Under m q → Under n q
  under_more m n [] l b = tt
  under_more m n (x ∷ q) l b = grind (arith, under_more m n q)

  pub under_without : (n j : ℕ) (q : List (Waiting C)) → Under n q → Under n (without₀ j q)
  under_without n j [] b = tt
  under_without n j (x ∷ q) b = grind (arith, under_without n j q)

  pub under_push : (n : ℕ) (q : List (Waiting C)) (x : Waiting C) → Under n q → x.row < n → Under n (q ++ x ∷ [])
  under_push n [] x b h = grind arith
  under_push n (y ∷ q) x b h = grind (arith, under_push n q)

pub queue_more : (m n : ℕ) (q : List ℕ) → m ≤ n → Below m q → Below n q
queue_more m n [] l b = tt
queue_more m n (x ∷ q) l b = grind (arith, queue_more m n q)

pub queue_without : (n j : ℕ) (q : List ℕ) → Below n q → Below n (left_of j q)
queue_without n j [] b = tt
queue_without n j (x ∷ q) b = grind (arith, common_steps, queue_without n j q)

pub ruleset entries = (without_entries, first_entries, below_first, map-append, under_more, under_without, under_push)

pub queue_push : (n : ℕ) (q : List ℕ) (j : ℕ) → Below n q → j < n → Below n (q ++ j ∷ [])
queue_push n q j b h = below_push n q j b h

pub front_none : (q : List ℕ) → front q ≡ None → q ≡ []
front_none [] e = refl
front_none (x ∷ q) e = cc

pub front_some : (q : List ℕ) (j : ℕ) → front q ≡ Some j → q ≡ j ∷ behind q
front_some [] j e = cc
front_some (x ∷ q) j e = grind arith

pub front_below : (n : ℕ) (q : List ℕ) (j : ℕ) → Below n q → front q ≡ Some j → j < n
front_below n [] j b e = cc
front_below n (x ∷ q) j b e = grind arith

pub behind_below : (n : ℕ) (q : List ℕ) → Below n q → Below n (behind q)
behind_below n [] b = tt
behind_below n (x ∷ q) b = b.1

pub ruleset rows_below = (queue_more, queue_without, queue_push, front_none, front_some, front_below, behind_below)
