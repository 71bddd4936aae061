-- What is held where no sink is left.
use Rattle.std.proofs.Common.{◌≡◌, ℕ, List, [], refl}
use Rattle.listing.specs.Handing.{Ready}
use Rattle.listing.specs.Routes.{pending}
use Rattle.planner.specs.Standing.{Standing}
use Rattle.planner.specs.Pending.{pending_of}

pub nothing_left : (f : Standing) (sinks : List ℕ) → sinks ≡ [] → pending_of f sinks ≡ []
unfolding pending
nothing_left f sinks e = rw e refl

-- the hand-outs can begin where there is no row and no sink
pub none_ready : (left : List (List ℕ)) → Ready [] left []
none_ready left = record {
  falling = record { rank = λ r. 0; falls = λ r p h. absurd h; inside = λ r p h. absurd h };
  inside = λ s h. absurd h;
  sound = tt;
}
