-- What the two queues of the code stand for.
use Rattle.std.specs.Prelude.{ℕ, Bool, true, false, List, [], ◌∷◌}
use Rattle.queues.specs.Queues.{Queued}
use Rattle.search.specs.Fringe.{Fringe}
use Rattle.planner.specs.Standing.{Standing, Below, IsServed}

-- the queues, the limit of this pass, and the least sum above it that was met
pub record Limited (C : Type 0) : Type 0 where
  pub queues : Queued
  pub limit : C
  pub least : C

abbrev pub fringe_of : {C : Type 0} → (C → ℕ) → Limited C → Fringe
fringe_of weight q = record { now = q.queues.now; later = q.queues.later; limit = weight q.limit; least = weight q.least }

-- all that waits is below n
abbrev pub QueuesBelow : {C : Type 0} → ℕ → Limited C → Type 0
QueuesBelow n q = Below n q.queues.now × Below n q.queues.later

-- the queues serve these rows
abbrev pub AreQueuesOf : {C : Type 0} → Standing → Limited C → Type 0
AreQueuesOf f q = IsServed (λ q. q.queues.rows) QueuesBelow f q

abbrev pub has_any : List ℕ → Bool
has_any [] = false
has_any (j ∷ js) = true
