-- Piles: a bottom graph under any number of fences and tolls, in any order.
use Rattle.std.specs.Prelude.{ℕ, Bool, List}
use Rattle.kinds.specs.Kind.{Kind}
use Rattle.graph.specs.Meaning.{Meaning, IsLawful}
use Rattle.graph.specs.Means.{means}
use Rattle.graph.specs.declared.questions.Graph.{Ghosts}
use Rattle.graph.specs.Routes.{IsTrueGuess}
use Rattle.graph.specs.Fenced.{fenced, fenced_guess}
use Rattle.graph.specs.Tolled.{tolled}

-- a meaning with its guess is a pile over the bottom meaning with its guess
pub data Pile (K : Kind) (bottom : Meaning) (bottom_guess : ℕ → ℕ) : Meaning → (ℕ → ℕ) → Type 0 where
  bare : Pile K bottom bottom_guess bottom bottom_guess
  under_fence :
      {M : Meaning} {guess : ℕ → ℕ} (barred : List Bool) → Pile K bottom bottom_guess M guess →
      Pile K bottom bottom_guess (fenced barred M) (fenced_guess barred M guess)
  under_toll :
      {M : Meaning} {guess : ℕ → ℕ} (charged : List Bool) (toll : ℕ) → Pile K bottom bottom_guess M guess →
      Pile K bottom bottom_guess (tolled K charged toll M) guess

-- a graph of the trait is a pile over another
abbrev pub IsPileOver :
    {S N C S' N' C' : Type 0} → Kind → Ghosts S N C → S → Ghosts S' N' C' → S' → Type 0
IsPileOver K G g Below below =
    Pile K (means Below below) (Below.guesses below) (means G g) (G.guesses g)

-- every pile keeps the laws of graphs, and a true guess of the bottom graph is a true guess of the pile
abbrev pub PilesKeepTruth : Type 0
PilesKeepTruth =
    (K : Kind) (bottom : Meaning) (bottom_guess : ℕ → ℕ) (M : Meaning) (guess : ℕ → ℕ) →
    Pile K bottom bottom_guess M guess →
    (IsLawful bottom bottom_guess → IsLawful M guess) × (IsTrueGuess bottom bottom_guess → IsTrueGuess M guess)

-- a pile over a pile is a pile over the bottom graph
abbrev pub PilesNest : Type 0
PilesNest =
    (K : Kind) (bottom : Meaning) (bottom_guess : ℕ → ℕ) (middle : Meaning) (middle_guess : ℕ → ℕ)
    (M : Meaning) (guess : ℕ → ℕ) →
    Pile K bottom bottom_guess middle middle_guess → Pile K middle middle_guess M guess →
    Pile K bottom bottom_guess M guess
