-- Fences, tolls and layers keep the laws of graphs, and so does a graph without its guess. The graphs that stand over
-- another cite these as their own laws.
use Rattle.std.specs.Prelude.{◌≡◌, ℕ, ◌≤◌, Bool, false, cond, List, [], ◌∷◌}
use Rattle.std.proofs.Common.{arith}
use Rattle.kinds.specs.Kind.{Kind}
use Rattle.graph.specs.Meaning.{Road, opened, closed, faulty, Meaning, IsLawful}
use Rattle.graph.specs.Zones.{in_table}
use Rattle.graph.specs.Fenced.{fenced_road, fenced, fenced_guess}
use Rattle.graph.specs.Tolled.{tolled_road, tolled}
use Rattle.graph.specs.Layers.{laid, laid_guess}
use Rattle.graph.specs.declared.layers.Layer.{Layer}
use Rattle.graph.specs.declared.layers.Layer.TheVariants.{Fence, Toll}

-- an open road past a fence is the same road below, between two keys that are not barred
pub fenced_opened :
    (barred : List Bool) (M : Meaning) (k : ℕ) (rd : Road) (to w : ℕ) →
    cond (in_table barred M k) closed (fenced_road barred M rd) ≡ opened to w →
    (rd ≡ opened to w) × (in_table barred M k ≡ false) × (in_table barred M to ≡ false)
fenced_opened barred M k rd to w e = grind arith

module _ (barred : List Bool) (M : Meaning) (guess : ℕ → ℕ) (l : IsLawful M guess) where
  pub fenced_lawful : IsLawful (fenced barred M) (fenced_guess barred M guess)
  fenced_lawful = grind arith

-- an open road past a toll is an open road of at most its weight below
pub tolled_opened :
    (K : Kind) (charged : List Bool) (toll : ℕ) (M : Meaning) (rank : ℕ) (rd : Road) (to w : ℕ) →
    tolled_road K charged toll M rank rd ≡ opened to w → (v : ℕ) × (v ≤ w) × (rd ≡ opened to v)
tolled_opened K charged toll M rank (opened to' w') to w e = (w', grind arith, grind arith)
tolled_opened K charged toll M rank closed to w e = cc
tolled_opened K charged toll M rank (faulty f) to w e = cc

module _ (K : Kind) (charged : List Bool) (toll : ℕ) (M : Meaning) (guess : ℕ → ℕ) (l : IsLawful M guess) where
  pub tolled_lawful : IsLawful (tolled K charged toll M) guess
  tolled_lawful = grind (arith, tolled_opened)

module _ {C : Type 0} (K : Kind) (weight : C → ℕ) where
  pub laid_lawful :
      (layers : List (Layer C)) (M : Meaning) (guess : ℕ → ℕ) → IsLawful M guess →
      IsLawful (laid K weight layers M) (laid_guess K weight layers M guess)
  laid_lawful [] M guess l = l
  laid_lawful (Fence barred ∷ above) M guess l = laid_lawful above _ _ (fenced_lawful barred M guess l)
  laid_lawful (Toll cost charged ∷ above) M guess l =
      laid_lawful above _ _ (tolled_lawful K charged (weight cost) M guess l)

pub unguided_lawful : (M : Meaning) (guess : ℕ → ℕ) → IsLawful M guess → IsLawful M (λ k. 0)
unguided_lawful M guess l = grind arith
