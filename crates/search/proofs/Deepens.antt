-- The laws of idastar, and that it ends.
use Rattle.std.proofs.Common.{◌≡◌, ℕ, ◌+◌, ◌-◌, ◌≤◌, true, List, Option, Some, None, refl, arith}
use Rattle.kinds.specs.Kind.{Kind, IsBounded}
use Rattle.graph.specs.Meaning.{Meaning, IsLawful}
use Rattle.graph.specs.Routes.{Weighs, IsTrueGuess}
use Rattle.search.specs.Outcome.{Outcome, stopped, none, found}
use Rattle.search.specs.Capacity.{Capacity}
use Rattle.search.specs.Ends.{Ends}
use Rattle.search.specs.Roads.{one}
use Rattle.search.specs.Deepening.{Visit, over, notes, alone, next_bound, deepen}
use Rattle.search.specs.Laws.{Shows}
use Rattle.search.proofs.Paths.{path_of, weigh}
use Rattle.search.proofs.Simple.{simple}
use Rattle.search.proofs.Passes.{Lawfully, Meets, Bars, Found, Fine, pass_fine, lowers, onward}
use Rattle.search.proofs.Once.{After, through, ComesToOne, comes}
use Rattle.search.proofs.Shown.{Low}

module _ (K : Kind) (M : Meaning) (guess : ℕ → ℕ) (start : ℕ) where
  module _ (l : Lawfully M guess start) (Guided : Type 0) (guided : Guided → IsTrueGuess M guess) where
    found_shows : (bound c : ℕ) (rs : List (List ℕ)) → Low M Guided start bound → Found K M guess start bound c rs → Shows one M Guided start (found c rs)
    found_shows bound c rs u f =
        let b = weigh M guess l.law (f.way l) in
        rw f.is (record {
          some = omega arith;
          routes = ((b.0, b.1), tt);
          lightest = λ t.
              let e : b.0 ≡ c = omega (arith, b.2, u t f.keys b.0 b.1, f.within) in
              record { weigh = (rw e at b.1, tt); least = λ ks w r. omega (arith, u t ks w r, f.within) };
          lists = refl;
        })

    -- a route from the start is barred by its own simple one
    barred : (bound : ℕ) (m : Option ℕ) → Bars K M guess start bound (alone start) m → (ks : List ℕ) (w : ℕ) → Weighs M start ks w → (v : ℕ) × Meets K M guess start bound m (0 + v) × (v ≤ w)
    barred bound m b ks w r = let s = simple M (path_of M r) in (s.weight, b l s.keys s.weight s.path (onward s.path s.apart), s.within)

    next : (bound : ℕ) → Low M Guided start bound → (v : Visit) → Fine K M guess start bound (alone start) None v → After (Low M Guided start) (Shows one M Guided start) (next_bound v)
    next bound u (over (stopped r)) f = tt
    next bound u (over none) f = absurd f
    next bound u (over (found c rs)) f = found_shows bound c rs u f
    next bound u (notes None) f = λ ks r. (barred bound None f.0 ks r.0 r.1).1
    next bound u (notes (Some b)) f = λ t ks w r. let z = barred bound (Some b) f.0 ks w r in omega (arith, z.1 (guided t), z.2)

  module _ (cap : Capacity) where
    pub deepens_shows : IsLawful M guess → (Guided : Type 0) → (Guided → IsTrueGuess M guess) → M.held start ≡ true → (o : Outcome) → Ends (deepen K M guess cap start) (guess start) o → Shows one M Guided start o
    deepens_shows law Guided guided held o =
        through (deepen K M guess cap start) (Low M Guided start) (Shows one M Guided start)
        (λ bound u. next (record { law = law; held = held }) Guided guided bound u _ (pass_fine K M guess start bound (cap.rows - 1))) (λ t ks w r. guided t start ks w held r)

    pub deepens_come : IsBounded K → (bound : ℕ) → ComesToOne (deepen K M guess cap start) bound
    deepens_come h bound = comes (deepen K M guess cap start) (λ b. Unit {0}) (λ b. K.greatest - b) (λ b u. lowers K M guess start b _ (pass_fine K M guess start b (cap.rows - 1)) h) bound tt
