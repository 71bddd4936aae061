-- A route past a fence or a toll is a route below that weighs no more, so that a true guess stays true.
use Rattle.std.proofs.Common.{◌≡◌, ℕ, zero, suc, ◌+◌, ◌<◌, ◌≤◌, Bool, true, false, cond, List, inl, inr, arith}
use Rattle.std.proofs.lemmas.Bool.{cases_lt}
use Rattle.kinds.specs.Kind.{Kind}
use Rattle.graph.specs.Meaning.{opened, Meaning}
use Rattle.graph.specs.Routes.{Step, Weighs, ends, goes, IsTrueGuess}
use Rattle.graph.specs.Zones.{in_table}
use Rattle.graph.specs.Fenced.{fenced, fenced_guess}
use Rattle.graph.specs.Tolled.{tolled}
use Rattle.graph.specs.Lawful.{fenced_opened, tolled_opened}

-- where there is an open road, it cannot be that none of at most its weight is lightest
lightest : (M : Meaning) (a b : ℕ) (fuel rank v : ℕ) → v < fuel → M.road a rank ≡ opened b v → ((u : ℕ) → u ≤ v → Step M a b u → ⊥) → ⊥
lightest M a b zero rank v h e never = omega arith
lightest M a b (suc fuel) rank v h e never =
    never v (omega arith) (record { rank = rank; is = e; least = λ rank' w' e'. elim (cases_lt w' v) [ inl less ↦ absurd (lightest M a b fuel rank' w' (omega arith) e' (λ u le s. never u (omega arith) s)) | inr le ↦ le ] })

-- the keys of a route past a toll are a route below; it cannot be that it weighs more there
tolled_weighs : (K : Kind) (charged : List Bool) (toll : ℕ) (M : Meaning) {k w : ℕ} {ks : List ℕ} → Weighs (tolled K charged toll M) k ks w → ((u : ℕ) → u ≤ w → Weighs M k ks u → ⊥) → ⊥
tolled_weighs K charged toll M (ends h g) never = never 0 (omega arith) (ends h g)
tolled_weighs K charged toll M (goes {k} {to} {w} {v} h s r) never =
    let o = tolled_opened K charged toll M s.rank (M.road k s.rank) to w s.is in
    lightest M k to (suc o.0) s.rank o.0 (omega arith) o.2
    (λ u le s'. tolled_weighs K charged toll M r (λ u' le' r'. never (u + u') (omega (arith, o.1)) (goes h s' r')))

pub tolled_true : (K : Kind) (charged : List Bool) (toll : ℕ) (M : Meaning) (guess : ℕ → ℕ) → IsTrueGuess M guess → IsTrueGuess (tolled K charged toll M) guess
tolled_true K charged toll M guess t k ks w h r =
    elim (cases_lt w (guess k)) [ inl less ↦ absurd (tolled_weighs K charged toll M r (λ u le r'. omega (arith, t k ks u h r'))) | inr le ↦ le ]

-- what is true of a key past the fence is true of it below, and the key is not barred
pub fenced_yes : (b : Bool) {x : Bool} → cond b false x ≡ true → (x ≡ true) × (b ≡ false)
fenced_yes b h = grind arith

fenced_step : (barred : List Bool) (M : Meaning) (a b w : ℕ) → Step (fenced barred M) a b w → Step M a b w
fenced_step barred M a b w s =
    let o = fenced_opened barred M a (M.road a s.rank) b w s.is in
    record { rank = s.rank; is = o.0; least = λ rank' w' e. s.least rank' w' (rw (o.1, e, o.2)) }

-- a route past a fence is a route below, of the same weight
pub fenced_weighs : (barred : List Bool) (M : Meaning) {k w : ℕ} {ks : List ℕ} → Weighs (fenced barred M) k ks w → Weighs M k ks w
fenced_weighs barred M (ends {k} h g) = ends (fenced_yes (in_table barred M k) h).0 (fenced_yes (in_table barred M k) g).0
fenced_weighs barred M (goes {k} {to} {w} h s r) =
    goes (fenced_yes (in_table barred M k) h).0 (fenced_step barred M k to w s) (fenced_weighs barred M r)

pub fenced_true : (barred : List Bool) (M : Meaning) (guess : ℕ → ℕ) → IsTrueGuess M guess → IsTrueGuess (fenced barred M) (fenced_guess barred M guess)
fenced_true barred M guess t k ks w h r =
    let le = t k ks w (fenced_yes (in_table barred M k) h).0 (fenced_weighs barred M r) in grind arith
