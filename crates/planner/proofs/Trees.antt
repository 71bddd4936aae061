-- A search whose rows are a tree ends well.
use Rattle.std.proofs.Common.{◌≡◌, ℕ, List, length, Some, None, Option, Ok}
use Rattle.graph.specs.Meaning.{Meaning}
use Rattle.search.specs.Roads.{one, all}
use Rattle.search.proofs.Invariant.{Tree}
use Rattle.search.proofs.Ranks.{falling}
use Rattle.search.proofs.Rooted.{RootedBag}
use Rattle.store.specs.Heaps.{Waits}
use Rattle.planner.specs.Bags.{bag_of}
use Rattle.planner.specs.Pending.{BagEndsWell}
use Rattle.listing.proofs.Bridge.{falling_rows}
use Rattle.planner.specs.Standing.{Standing}
use Rattle.planner.specs.Turns.{IsGoalIn, EndsWell}
use Rattle.planner.specs.declared.goal.Goal.{Goal}

pub ends_well : {C : Type 0} (M : Meaning) (start : ℕ) (f f' : Standing) (o : Option (Goal C)) → Tree one M start f.rows → (f' ≡ f) × IsGoalIn (length f.rows) o → EndsWell f'.rows (Ok o)
ends_well M start f f' None tree h = tt
ends_well M start f f' (Some x) tree h =
    let r = falling one tree in
    rw h.0 (h.1, falling_rows f.rows r.rank r.falls r.inside)

pub bag_ends_well : {C : Type 0} (M : Meaning) (start : ℕ) (f f' : Standing) (h : Waits C) (sinks sinks' : List ℕ) (cost : Option C) (weight : C → ℕ) → RootedBag M start (bag_of weight f h sinks cost) → (f' ≡ f) × (sinks' ≡ sinks) → BagEndsWell f'.rows sinks' (Ok cost)
bag_ends_well M start f f' h sinks sinks' None weight r e = tt
bag_ends_well M start f f' h sinks sinks' (Some c) weight r e =
    let k = falling all r.rooted.tree in
    rw (e.0, e.1) (r.inside, falling_rows f.rows k.rank k.falls k.inside)
