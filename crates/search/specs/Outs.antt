-- The hand-outs of a seek: those up to the next seek that are not refused.
use Rattle.std.specs.Prelude.{◌≡◌, ◌↔◌, ℕ, List, [], ◌∷◌, ◌++◌, Some, None, Option}
use Rattle.std.specs.List.{AllByRecursion}
use Rattle.graph.specs.Meaning.{Meaning}
use Rattle.graph.specs.Routes.{Lightest}
use Rattle.search.specs.Members.{In, Distinct}
use Rattle.search.specs.Calls.{gave, finished, denied, Event, sought, handed_out}

-- what a hand-out that is not refused comes to: the keys that it gives, or nothing where it answers finished
abbrev pub Out : Type 0
Out = Option (List ℕ)

-- the hand-outs that are not refused, up to the next seek
abbrev pub outs : List Event → List Out
outs [] = []
outs (sought m M guess start a ∷ es) = []
outs (handed_out room (gave ks) ∷ es) = Some ks ∷ outs es
outs (handed_out room finished ∷ es) = None ∷ outs es
outs (handed_out room (denied r) ∷ es) = outs es

-- all that they give
abbrev pub given : List Out → List (List ℕ)
given [] = []
given (Some ks ∷ os) = ks ∷ given os
given (None ∷ os) = given os

-- the first, if any, gives keys
abbrev pub FirstGives : List Out → Type 0
FirstGives [] = Unit {0}
FirstGives (Some ks ∷ os) = Unit {0}
FirstGives (None ∷ os) = ⊥

-- all answer finished
abbrev pub AllFinished : List Out → Type 0
AllFinished os = AllByRecursion (λ o. o ≡ None) os

-- they give these routes in their order, each once, and answer finished after the last
abbrev pub Deals : List (List ℕ) → List Out → Type 0
Deals rs [] = Unit {0}
Deals [] (o ∷ os) = (o ≡ None) × Deals [] os
Deals (r ∷ rs) (o ∷ os) = (o ≡ Some r) × Deals rs os

-- every lightest route from the start is one of these
abbrev pub HasAll : Meaning → (start : ℕ) → List (List ℕ) → Type 0
HasAll M start rs = (ks : List ℕ) → Lightest M start ks → In ks rs

-- they give lightest routes from the start, none twice, and answer finished exactly when every one has been given
pub record GiveAll (M : Meaning) (start : ℕ) (os : List Out) : Type 0 where
  pub lightest : AllByRecursion (Lightest M start) (given os)
  pub once : Distinct (given os)
  pub finished : (before : List Out) (o : Out) (after : List Out)
      → os ≡ before ++ o ∷ after → (o ≡ None) ↔ HasAll M start (given before)
