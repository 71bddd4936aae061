-- What fences and tolls do to routes.
use Rattle.std.specs.Prelude.{◌≡◌, ℕ, ◌≤◌, Bool, false, List}
use Rattle.std.specs.List.{AllByRecursion}
use Rattle.kinds.specs.Kind.{Kind}
use Rattle.graph.specs.Meaning.{Meaning}
use Rattle.graph.specs.Routes.{Weighs}
use Rattle.graph.specs.Zones.{in_table}
use Rattle.graph.specs.Fenced.{fenced}
use Rattle.graph.specs.Tolled.{tolled}

-- none of the keys is barred
abbrev pub Unbarred : List Bool → Meaning → List ℕ → Type 0
Unbarred barred M ks = AllByRecursion (λ k. in_table barred M k ≡ false) ks

-- the routes past a fence are the routes below that meet no barred key, and weigh the same
abbrev pub FencesPartRoutes : Type 0
FencesPartRoutes =
    (barred : List Bool) (M : Meaning) (k : ℕ) (ks : List ℕ) (w : ℕ) →
    (Weighs (fenced barred M) k ks w → Weighs M k ks w × Unbarred barred M ks) ×
    (Weighs M k ks w × Unbarred barred M ks → Weighs (fenced barred M) k ks w)

-- no route past a toll weighs less than the same keys below
abbrev pub TollsAddWeight : Type 0
TollsAddWeight =
    (K : Kind) (charged : List Bool) (toll : ℕ) (M : Meaning) (k : ℕ) (ks : List ℕ) (w v : ℕ) →
    Weighs (tolled K charged toll M) k ks w → Weighs M k ks v → v ≤ w
