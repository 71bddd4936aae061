-- A seek whose route is taken at once, in the words of routes.
use Rattle.std.specs.Prelude.{◌≡◌, ℕ, List}
use Rattle.kinds.specs.Kind.{Kind}
use Rattle.graph.specs.Meaning.{Meaning}
use Rattle.graph.specs.Routes.{Route, Lightest}
use Rattle.search.specs.declared.refusal.SeekRefusal.{SeekRefusal}
use Rattle.search.specs.declared.refusal.HandOutRefusal.{HandOutRefusal}
use Rattle.search.specs.declared.method.Method.{Method}
use Rattle.search.specs.Calls.{Held, Answer, costs, no_route, refused, Given, gave, denied, sought, handed_out, Call}
use Rattle.search.specs.Laws.{Guided}
use Rattle.search.specs.History.{Begins}

-- what it answers: the keys of a route and its cost, or none, or the refusal of the seek or of the hand-out
pub data Taken : Type 0 where
  route : (keys : List ℕ) (cost : ℕ) → Taken
  none : Taken
  seek_refused : SeekRefusal → Taken
  hand_out_refused : HandOutRefusal → Taken

-- a route from the start that no other from there undercuts, and its cost is what it weighs
abbrev pub Cheapest : Meaning → (start : ℕ) → List ℕ → (cost : ℕ) → Type 0
Cheapest M start ks cost = (lightest : Lightest M start ks) × (lightest.weight ≡ cost)

-- what is found is a route from the start; it is a cheapest one if the bottom graph's guess is true, for the methods that
-- go by the guess
pub record FoundRoute (K : Kind) (m : Method) (M : Meaning) (guess : ℕ → ℕ) (start : ℕ)
    (ks : List ℕ) (cost : ℕ) : Type 0 where
  pub route : Route M start ks
  pub cheapest : Guided K m M guess → Cheapest M start ks cost

-- a route and a cost of which this holds; or none, where no route begins at the start; or a refusal
abbrev pub Answered : (List ℕ → ℕ → Type 0) → Meaning → (start : ℕ) → Taken → Type 0
Answered Holds M start (route ks cost) = Holds ks cost
Answered Holds M start none = Begins M start → ⊥
Answered Holds M start (seek_refused r) = Unit {0}
Answered Holds M start (hand_out_refused r) = Unit {0}

-- a seek that answers so, and a hand-out that gives so
pub record SeekAndHandOut (K : Kind) (m : Method) (M : Meaning) (guess : ℕ → ℕ) (start room : ℕ)
    (s : Held) (a : Answer) (g : Given) (t : Held) : Type 0 where
  pub between : Held
  pub seek : Call K s (sought m M guess start a) between
  pub hand_out : Call K between (handed_out room g) t

-- the calls that are made: the seek, and the hand-out where it answers a cost. The refusal of either is the answer
abbrev pub Calls : Kind → Method → Meaning → (guess : ℕ → ℕ) → (start room : ℕ) → Held → Taken → Held → Type 0
Calls K m M guess start room s (route ks cost) t = SeekAndHandOut K m M guess start room s (costs cost) (gave ks) t
Calls K m M guess start room s none t = Call K s (sought m M guess start no_route) t
Calls K m M guess start room s (seek_refused r) t = Call K s (sought m M guess start (refused r)) t
Calls K m M guess start room s (hand_out_refused r) t =
    (c : ℕ) × SeekAndHandOut K m M guess start room s (costs c) (denied r) t
