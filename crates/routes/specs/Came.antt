-- What comes of a seek whose route is taken at once, in the words of routes and of calls.
use Rattle.std.specs.Prelude.{◌≡◌, ℕ, List, map, Some, None, Ok, Err, Option, Result}
use Rattle.kinds.specs.Kind.{Kind}
use Rattle.graph.specs.Meaning.{Meaning}
use Rattle.search.specs.declared.method.Method.{Method}
use Rattle.search.specs.Calls.{Held, Answer, costs, no_route, refused, Given, gave, denied, sought, handed_out, Call}
use Rattle.search.specs.History.{Begins}
use Rattle.routes.specs.declared.priced_route.PricedRoute.{PricedRoute}
use Rattle.routes.specs.declared.refusal.RouteRefusal.{RouteRefusal}
use Rattle.routes.specs.declared.refusal.RouteRefusal.TheVariants.{Seek, HandOut}

-- the keys of a route, and its cost
pub record Priced : Type 0 where
  pub keys : List ℕ
  pub cost : ℕ

-- a route; or that there is none; or a refusal
abbrev pub Came : Type 0
Came = Result (Option Priced) RouteRefusal

-- what came of a seek that answers this
abbrev pub came_of : {N C : Type 0} → (N → ℕ) → (C → ℕ) → Result (Option (PricedRoute N C)) RouteRefusal → Came
came_of key weight (Ok (Some found)) = Ok (Some (record { keys = map key found.route.nodes.now; cost = weight found.cost }))
came_of key weight (Ok None) = Ok None
came_of key weight (Err e) = Err e

-- keys and a cost of which this holds; or none, where no route begins at the start; or a refusal
abbrev pub Answered : (Holds : List ℕ → ℕ → Type 0) → Meaning → (start : ℕ) → Came → Type 0
Answered Holds M start (Ok (Some p)) = Holds p.keys p.cost
Answered Holds M start (Ok None) = Begins M start → ⊥
Answered Holds M start (Err e) = Unit {0}

module _ (K : Kind) (m : Method) (M : Meaning) (guess : ℕ → ℕ) (start room : ℕ) (s : Held) where
  -- a seek that answers so, and a hand-out that gives so
  pub record SeekAndHandOut (a : Answer) (g : Given) (t : Held) : Type 0 where
    pub between : Held
    pub seek : Call K s (sought m M guess start a) between
    pub hand_out : Call K between (handed_out room g) t

  -- the calls that are made: the seek, and the hand-out where it answers a cost. The refusal of either is the answer
  abbrev pub Calls : Came → Held → Type 0
  Calls (Ok (Some p)) t = SeekAndHandOut (costs p.cost) (gave p.keys) t
  Calls (Ok None) t = Call K s (sought m M guess start no_route) t
  Calls (Err (Seek r)) t = Call K s (sought m M guess start (refused r)) t
  Calls (Err (HandOut r)) t = (c : ℕ) × SeekAndHandOut (costs c) (denied r) t
