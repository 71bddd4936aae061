-- What the outcome of every search shows, in the words of routes: for every method, every cost kind, every lawful graph,
-- any memory and any start; and that every search ends.
use Rattle.std.specs.Prelude.{◌≡◌, ℕ, ◌<◌, ◌≤◌, List, length}
use Rattle.std.specs.List.{AllByRecursion}
use Rattle.kinds.specs.Kind.{Kind, IsBounded}
use Rattle.graph.specs.Meaning.{Meaning, IsLawful}
use Rattle.graph.specs.Routes.{Weighs, Route, IsTrueGuess}
use Rattle.graph.specs.Pile.{Pile}
use Rattle.search.specs.declared.method.Method.{Method}
use Rattle.search.specs.declared.method.Method.TheVariants.{Dijkstra, Astar, AstarBag, Fringe, Idastar}
use Rattle.search.specs.Members.{In, Distinct}
use Rattle.search.specs.Outcome.{Outcome, stopped, none, found}
use Rattle.search.specs.Capacity.{Capacity}
use Rattle.search.specs.Roads.{Keeps, one, all}
use Rattle.search.specs.Answers.{Answers}

-- the graph is a pile of any number of fences and tolls over a bottom graph, whose guess is true; of none, over itself
pub record Founded (K : Kind) (M : Meaning) (guess : ℕ → ℕ) : Type 0 where
  pub bottom : Meaning
  pub bottom_guess : ℕ → ℕ
  pub pile : Pile K bottom bottom_guess M guess
  pub truth : IsTrueGuess bottom bottom_guess

-- the bottom graph's guess is true, for the methods that go by the guess
abbrev pub Guided : Kind → Method → Meaning → (guess : ℕ → ℕ) → Type 0
Guided K Dijkstra M guess = Unit {0}
Guided K Astar M guess = Founded K M guess
Guided K AstarBag M guess = Founded K M guess
Guided K Fringe M guess = Founded K M guess
Guided K Idastar M guess = Founded K M guess

-- whether a method finds one route or all
abbrev pub keeps_of : Method → Keeps
keeps_of Dijkstra = one
keeps_of Astar = one
keeps_of AstarBag = all
keeps_of Fringe = one
keeps_of Idastar = one

-- a cost that each of these routes weighs, and that no route from the start undercuts
pub record LightestAt (M : Meaning) (start : ℕ) (rs : List (List ℕ)) (c : ℕ) : Type 0 where
  pub weigh : AllByRecursion (λ ks. Weighs M start ks c) rs
  pub least : (ks : List ℕ) (w : ℕ) → Weighs M start ks w → c ≤ w

-- which of the routes from the start are found, beyond that they are such: one; or none twice, and, if guided, every one
-- that weighs the cost
abbrev pub Lists : Keeps → Meaning → (Guided : Type 0) → (start c : ℕ) → List (List ℕ) → Type 0
Lists one M Guided start c rs = length rs ≡ 1
Lists all M Guided start c rs = Distinct rs × (Guided → (ks : List ℕ) → Weighs M start ks c → In ks rs)

-- what is found are routes from the start, at least one; if guided, lightest ones, of the cost that is answered
pub record Found (keeps : Keeps) (M : Meaning) (Guided : Type 0) (start c : ℕ) (rs : List (List ℕ)) : Type 0 where
  pub some : 0 < length rs
  pub routes : AllByRecursion (Route M start) rs
  pub lightest : Guided → LightestAt M start rs c
  pub lists : Lists keeps M Guided start c rs

-- where nothing is found, no route begins at the start
abbrev pub Shows : Keeps → Meaning → (Guided : Type 0) → (start : ℕ) → Outcome → Type 0
Shows keeps M Guided start (stopped r) = Unit {0}
Shows keeps M Guided start none = (ks : List ℕ) → Route M start ks → ⊥
Shows keeps M Guided start (found c rs) = Found keeps M Guided start c rs

-- every outcome of every search shows this
abbrev pub SearchesRight : Type 0
SearchesRight =
    (m : Method) (K : Kind) (M : Meaning) (guess : ℕ → ℕ) (cap : Capacity) (start : ℕ) → IsLawful M guess
    → (o : Outcome) → Answers m K M guess cap start o → Shows (keeps_of m) M (Guided K m M guess) start o

-- every search ends, and answers once: there is an outcome, and no other
abbrev pub SearchesEnd : Type 0
SearchesEnd =
    (m : Method) (K : Kind) (M : Meaning) (guess : ℕ → ℕ) (cap : Capacity) (start : ℕ) → IsBounded K
    → (o : Outcome) × Answers m K M guess cap start o × ((o' : Outcome) → Answers m K M guess cap start o' → o' ≡ o)
