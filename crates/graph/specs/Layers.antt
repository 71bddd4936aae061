-- Layers laid over a graph one after another, the lowest first.
use Rattle.std.specs.Prelude.{ℕ, Bool, false, List, [], ◌∷◌}
use Rattle.kinds.specs.Kind.{Kind}
use Rattle.graph.specs.Meaning.{Road, Meaning}
use Rattle.graph.specs.Zones.{in_table}
use Rattle.graph.specs.Fenced.{fenced_road, fenced, fenced_guess}
use Rattle.graph.specs.Tolled.{tolled_road, tolled}
use Rattle.graph.specs.declared.layers.Layer.{Layer}
use Rattle.graph.specs.declared.layers.Layer.TheVariants.{Fence, Toll}

-- whether a layer over the graph is a fence that bars a key
abbrev pub bars : {C : Type 0} → Meaning → ℕ → Layer C → Bool
bars M k (Fence barred) = in_table barred M k
bars M k (Toll cost charged) = false

module _ {C : Type 0} (K : Kind) (weight : C → ℕ) where
  -- a road of the graph, past a layer
  abbrev pub past_road : Meaning → ℕ → Road → Layer C → Road
  past_road M rank rd (Fence barred) = fenced_road barred M rd
  past_road M rank rd (Toll cost charged) = tolled_road K charged (weight cost) M rank rd

  -- the graph past a layer
  abbrev pub past : Layer C → Meaning → Meaning
  past (Fence barred) M = fenced barred M
  past (Toll cost charged) M = tolled K charged (weight cost) M

  -- its guess
  abbrev pub past_guess : Layer C → Meaning → (ℕ → ℕ) → ℕ → ℕ
  past_guess (Fence barred) M guess = fenced_guess barred M guess
  past_guess (Toll cost charged) M guess = guess

  -- the graph past all layers
  abbrev pub laid : List (Layer C) → Meaning → Meaning
  laid [] M = M
  laid (layer ∷ above) M = laid above (past layer M)

  -- its guess
  abbrev pub laid_guess : List (Layer C) → Meaning → (ℕ → ℕ) → ℕ → ℕ
  laid_guess [] M guess = guess
  laid_guess (layer ∷ above) M guess = laid_guess above (past layer M) (past_guess layer M guess)
