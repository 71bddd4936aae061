-- The routes past a fence, and what the routes past a toll weigh.
use Rattle.std.proofs.Common.{◌≡◌, ℕ, ◌≤◌, Some, Bool, false, List, refl, arith}
use Rattle.std.specs.List.{slice_get}
use Rattle.kinds.specs.Kind.{Kind}
use Rattle.graph.specs.Meaning.{Meaning}
use Rattle.graph.specs.Routes.{Step, Weighs, ends, goes}
use Rattle.graph.specs.Zones.{in_table}
use Rattle.graph.specs.Fenced.{fenced}
use Rattle.graph.specs.Tolled.{tolled}
use Rattle.graph.specs.Lawful.{fenced_opened, tolled_opened}
use Rattle.graph.specs.Past.{Unbarred, FencesPartRoutes, TollsAddWeight}
use Rattle.graph.proofs.Below.{fenced_yes, fenced_weighs}

-- a route has a first key, the one that it begins at
begins : (M : Meaning) {k w : ℕ} {ks : List ℕ} → Weighs M k ks w → slice_get ks 0 ≡ Some k
begins M (ends h g) = refl
begins M (goes h s r) = refl

unbarred : (barred : List Bool) (M : Meaning) {k w : ℕ} {ks : List ℕ} → Weighs (fenced barred M) k ks w → Unbarred barred M ks
unbarred barred M (ends {k} h g) = ((fenced_yes (in_table barred M k) h).1, tt)
unbarred barred M (goes {k} h s r) = ((fenced_yes (in_table barred M k) h).1, unbarred barred M r)

first_unbarred : (barred : List Bool) (M : Meaning) {k w : ℕ} {ks : List ℕ} → Weighs M k ks w → Unbarred barred M ks → in_table barred M k ≡ false
first_unbarred barred M (ends h g) u = u.0
first_unbarred barred M (goes h s r) u = u.0

past_step : (barred : List Bool) (M : Meaning) (a b w : ℕ) → in_table barred M a ≡ false → in_table barred M b ≡ false → Step M a b w → Step (fenced barred M) a b w
past_step barred M a b w ha hb s =
    record { rank = s.rank; is = rw (ha, s.is, hb); least = λ rank' w' e. s.least rank' w' (fenced_opened barred M a (M.road a rank') b w' e).0 }

past : (barred : List Bool) (M : Meaning) {k w : ℕ} {ks : List ℕ} → Weighs M k ks w → Unbarred barred M ks → Weighs (fenced barred M) k ks w
past barred M (ends {k} h g) u = ends (rw u.0 h) (rw u.0 g)
past barred M (goes {k} {to} {w} h s r) u =
    goes (rw u.0 h) (past_step barred M k to w u.0 (first_unbarred barred M r u.1) s) (past barred M r u.1)

pub fences_part_routes : FencesPartRoutes
fences_part_routes barred M k ks w = (λ r. (fenced_weighs barred M r, unbarred barred M r), λ p. past barred M p.0 p.1)

adds : (K : Kind) (charged : List Bool) (toll : ℕ) (M : Meaning) {k k' w v : ℕ} {ks : List ℕ} → Weighs (tolled K charged toll M) k ks w → Weighs M k' ks v → v ≤ w
adds K charged toll M (ends h g) (ends h' g') = omega arith
adds K charged toll M (ends h g) (goes h' s' r') = let z = begins M r' in cc
adds K charged toll M (goes h s r) (ends h' g') = let z = begins (tolled K charged toll M) r in cc
adds K charged toll M (goes {k} {to} {w} h s r) (goes {to = to'} {w = w'} h' s' r') =
    let e : to ≡ to' = cc (begins (tolled K charged toll M) r, begins M r') in
    let o = tolled_opened K charged toll M s.rank (M.road k s.rank) to w s.is in
    omega (arith, o.1, s'.least s.rank o.0 (cc o.2), adds K charged toll M r r')

pub tolls_add_weight : TollsAddWeight
tolls_add_weight K charged toll M k ks w v r r' = adds K charged toll M r r'
