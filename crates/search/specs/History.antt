-- Histories of a planner: one making, then any calls; and the law that holds of each, in the words of routes.
use Rattle.std.specs.Prelude.{◌≡◌, ℕ, ◌↔◌, List, [], ◌∷◌, ◌++◌}
use Rattle.std.specs.List.{AllByRecursion}
use Rattle.kinds.specs.Kind.{Kind}
use Rattle.graph.specs.Meaning.{Meaning, IsLawful}
use Rattle.graph.specs.Routes.{Route}
use Rattle.search.specs.declared.refusal.SeekRefusal.{SeekRefusal}
use Rattle.search.specs.declared.method.Method.{Method}
use Rattle.search.specs.declared.method.Method.TheVariants.{AstarBag}
use Rattle.search.specs.Capacity.{Capacity}
use Rattle.search.specs.Calls.{Held, Answer, costs, no_route, refused, Event, sought, handed_out, Call}
use Rattle.search.specs.Laws.{Guided, keeps_of, Lists, LightestAt}
use Rattle.search.specs.Outs.{Out, outs, given, FirstGives, AllFinished, Deals, GiveAll}

-- a planner is made with some memory and nothing to hand out; then come calls, each on what the one before left, the
-- latest last
pub data History (K : Kind) : List Event → Held → Type 0 where
  made : (cap : Capacity) → History K [] (record { capacity = cap; pending = [] })
  after : {es : List Event} {s : Held} → History K es s → (e : Event) (t : Held) → Call K s e t → History K (es ++ e ∷ []) t

-- ---- what a seek finds
-- a route begins there
abbrev pub Begins : Meaning → (start : ℕ) → Type 0
Begins M start = (ks : List ℕ) × Route M start ks

-- it finds a route: it answers a cost, its first hand-out, if any, gives keys, and all that its hand-outs give are routes
-- from its start. It reports that cost, and those are the routes found
pub record Finds (M : Meaning) (start : ℕ) (a : Answer) (os : List Out) : Type 0 where
  pub cost : ℕ
  pub answers : a ≡ costs cost
  pub first : FirstGives os
  pub routes : AllByRecursion (Route M start) (given os)

-- it finds none: it answers no route, and all its hand-outs answer finished
pub record FindsNone (a : Answer) (os : List Out) : Type 0 where
  pub answers : a ≡ no_route
  pub nothing : AllFinished os

-- it hands out what its method lists, at the cost that it reports
pub record HandsOut (K : Kind) (m : Method) (M : Meaning) (guess : ℕ → ℕ) (start c : ℕ) (os : List Out) : Type 0 where
  pub routes : List (List ℕ)
  pub lists : Lists (keeps_of m) M (Guided K m M guess) start c routes
  pub deals : Deals routes os

abbrev pub Refused : Answer → Type 0
Refused a = (r : SeekRefusal) × (a ≡ refused r)

-- ---- the law of a seek, by its cost kind, method, graph, start, answer and hand-outs
pub record Fair (K : Kind) (m : Method) (M : Meaning) (guess : ℕ → ℕ) (start : ℕ) (a : Answer) (os : List Out) : Type 0 where
  -- if it is not refused it finds a route exactly when one begins at its start, and otherwise finds none
  pub finds : (Refused a → ⊥) → Begins M start ↔ Finds M start a os
  pub otherwise : (Refused a → ⊥) → (Begins M start → ⊥) ↔ FindsNone a os
  -- if the bottom graph's guess is true, every route found weighs the cost that it reports, and no route from its start
  -- weighs less
  pub lightest : Guided K m M guess → (c : ℕ) → a ≡ costs c → LightestAt M start (given os) c
  -- it hands out what its method lists, each once, and is then finished
  pub hands_out : (c : ℕ) → a ≡ costs c → HandsOut K m M guess start c os
  -- by astar_bag, if it is not refused and the bottom graph's guess is true, it gives all lightest routes
  pub gives_all : m ≡ AstarBag → Guided K m M guess → (Refused a → ⊥) → GiveAll M start os
  -- if it is refused it leaves nothing to hand out
  pub leaves_none : Refused a → AllFinished os

-- of every seek among these calls, over a lawful graph
abbrev pub EverySeek : Kind → List Event → Type 0
EverySeek K [] = Unit {0}
EverySeek K (sought m M guess start a ∷ es) = (IsLawful M guess → Fair K m M guess start a (outs es)) × EverySeek K es
EverySeek K (handed_out room g ∷ es) = EverySeek K es

-- the law over all histories; before the first seek there is nothing to hand out
abbrev pub Law : Kind → Type 0
Law K = (es : List Event) (t : Held) → History K es t → AllFinished (outs es) × EverySeek K es

abbrev pub HistoriesFair : Type 0
HistoriesFair = (K : Kind) → Law K

-- calls that make a history, with what the law says of them
pub record Whole (K : Kind) (es : List Event) : Type 0 where
  pub left : Held
  pub history : History K es left
  pub before : AllFinished (outs es)
  pub seeks : EverySeek K es
