-- Worked examples of the searches, and of a history.
use Rattle.std.specs.Prelude.{ℕ, ◌+◌, cond, List, [], ◌∷◌, Some, None, length, ◌==◌, nat_lt, slice_index_or}
use Rattle.kinds.specs.Millis.{millis_kind}
use Rattle.kinds.specs.Trims.{trims_kind, weight_of}
use Rattle.graph.specs.Meaning.{Meaning, Road, opened, closed, faulty, IsLawful}
use Rattle.search.specs.declared.refusal.SeekRefusal.TheVariants.{FaultyRoad, ZeroWeight, NoSum, NoRow, NoLink}
use Rattle.search.specs.declared.refusal.HandOutRefusal.TheVariants.{Short}
use Rattle.search.specs.Outcome.{Outcome, stopped, found}
use Rattle.search.specs.declared.method.Method.{Method}
use Rattle.search.specs.declared.method.Method.TheVariants.{Dijkstra, Astar, AstarBag, Fringe, Idastar}
use Rattle.search.specs.Capacity.{Capacity}
use Rattle.search.specs.Answers.{Answers}
use Rattle.search.specs.Calls.{sought, handed_out, costs, gave, finished, denied}
use Rattle.search.specs.Outs.{GiveAll}
use Rattle.search.specs.History.{Whole}

abbrev pub rows_and_links : (rows links : ℕ) → Capacity
rows_and_links rows links = record { rows = rows; links = links }

abbrev pub rows : ℕ → Capacity
rows n = rows_and_links n 0

-- stations from 0, each with its roads; the last is the goal
abbrev pub stations : List (List Road) → Meaning
stations table =
    record {
      held = λ k. nat_lt k (length table);
      zone = λ k. 0;
      count = λ k. length (slice_index_or table k []);
      road = λ k rank. slice_index_or (slice_index_or table k []) rank closed;
      goal = λ k. (k + 1 == length table);
    }

-- the same with this goal
abbrev pub stations_to : (goal : ℕ) → List (List Road) → Meaning
stations_to goal table =
    record {
      held = (stations table).held;
      zone = (stations table).zone;
      count = (stations table).count;
      road = (stations table).road;
      goal = λ k. (k == goal);
    }

-- 0 → 1, 0 → 2, 1 → 3 and 2 → 3, each of weight 1
abbrev pub diamond_roads : List (List Road)
diamond_roads = (opened 1 1 ∷ opened 2 1 ∷ []) ∷ (opened 3 1 ∷ []) ∷ (opened 3 1 ∷ []) ∷ [] ∷ []

abbrev pub diamond : Meaning
diamond = stations diamond_roads

abbrev pub no_guess : ℕ → ℕ
no_guess k = 0

-- 0 → 1 of 3, 0 → 2 of 1, 1 → 3 of 4 and 2 → 1 of 1; the guess is 5 at 2 and else zero, so that the roads of 1 are followed
-- before the lighter way to it is known
abbrev pub detour_roads : List (List Road)
detour_roads = (opened 1 3 ∷ opened 2 1 ∷ []) ∷ (opened 3 4 ∷ []) ∷ (opened 1 1 ∷ []) ∷ [] ∷ []

abbrev pub detour : Meaning
detour = stations detour_roads

abbrev pub detour_guess : ℕ → ℕ
detour_guess k = cond (k == 2) 5 0

-- one station
abbrev pub alone : Meaning
alone = stations ([] ∷ [])

-- 0 → 1 of this weight
abbrev pub one_road : (weight : ℕ) → Meaning
one_road weight = stations ((opened 1 weight ∷ []) ∷ [] ∷ [])

-- a guess that is not true of one road of 2: it is 3 at the goal
abbrev pub high_guess : ℕ → ℕ
high_guess k = cond (k == 1) 3 0

-- 0 → 1 of the greatest cost, and 1 → 2 of 1
abbrev pub greatest_roads : List (List Road)
greatest_roads = (opened 1 4294967295 ∷ []) ∷ (opened 2 1 ∷ []) ∷ [] ∷ []

abbrev pub greatest_to : (goal : ℕ) → Meaning
greatest_to goal = stations_to goal greatest_roads

-- 0 → 2 of one trim and 10 milliseconds, 0 → 1 and 1 → 2 each of 4,500 milliseconds
abbrev pub trims_roads : List (List Road)
trims_roads = (opened 2 (weight_of 1 10) ∷ opened 1 (weight_of 0 4500) ∷ []) ∷ (opened 2 (weight_of 0 4500) ∷ []) ∷ [] ∷ []

abbrev pub trims : Meaning
trims = stations trims_roads

-- 0 → 0 of nothing, 0 → 1 of 2, 0 → 2 of 1, 1 → 3 of 1 and 2 → 3 of 2
abbrev pub back_road : Meaning
back_road = stations ((opened 0 0 ∷ opened 1 2 ∷ opened 2 1 ∷ []) ∷ (opened 3 1 ∷ []) ∷ (opened 3 2 ∷ []) ∷ [] ∷ [])

-- 0 → 1 of nothing, and a road that cannot be answered
abbrev pub faulty_road : Meaning
faulty_road = stations ((opened 1 0 ∷ faulty (record { rank = 1; depth = 0 }) ∷ []) ∷ [] ∷ [])

-- three seeks over two graphs on one planner, with hand-outs: a history, with what the law says of it
abbrev pub ThreeSeeks : Type 0
ThreeSeeks =
    Whole millis_kind
    (handed_out 9 finished
    ∷ sought Dijkstra diamond no_guess 0 (costs 2)
    ∷ handed_out 2 (denied (Short 3))
    ∷ handed_out 3 (gave (0 ∷ 1 ∷ 3 ∷ []))
    ∷ handed_out 9 finished
    ∷ sought Astar detour detour_guess 0 (costs 6)
    ∷ handed_out 9 (gave (0 ∷ 2 ∷ 1 ∷ 3 ∷ []))
    ∷ sought AstarBag diamond no_guess 0 (costs 2)
    ∷ handed_out 9 (gave (0 ∷ 2 ∷ 3 ∷ []))
    ∷ handed_out 2 (denied (Short 3))
    ∷ handed_out 9 (gave (0 ∷ 1 ∷ 3 ∷ []))
    ∷ handed_out 9 finished
    ∷ [])

-- what a search from station 0 comes to, where costs are milliseconds
abbrev pub InMillis : Method → Meaning → (guess : ℕ → ℕ) → Capacity → Outcome → Type 0
InMillis m M guess cap o = Answers m millis_kind M guess cap 0 o

pub record Worked : Type 0 where
  -- of the two routes over the diamond, the one found first or last, or both
  pub diamond_dijkstra : InMillis Dijkstra diamond no_guess (rows 512) (found 2 ((0 ∷ 1 ∷ 3 ∷ []) ∷ []))
  pub diamond_astar : InMillis Astar diamond no_guess (rows 512) (found 2 ((0 ∷ 1 ∷ 3 ∷ []) ∷ []))
  pub diamond_astar_bag :
      InMillis AstarBag diamond no_guess (rows_and_links 512 2000) (found 2 ((0 ∷ 2 ∷ 3 ∷ []) ∷ (0 ∷ 1 ∷ 3 ∷ []) ∷ []))
  pub diamond_fringe : InMillis Fringe diamond no_guess (rows 512) (found 2 ((0 ∷ 2 ∷ 3 ∷ []) ∷ []))
  pub diamond_idastar : InMillis Idastar diamond no_guess (rows 512) (found 2 ((0 ∷ 1 ∷ 3 ∷ []) ∷ []))
  -- of three rows none is left for the goal, where a row is kept for each node that was found; the path has three nodes
  pub diamond_full : InMillis Astar diamond no_guess (rows 3) (stopped (NoRow 1 0))
  pub diamond_path : InMillis Idastar diamond no_guess (rows 3) (found 2 ((0 ∷ 1 ∷ 3 ∷ []) ∷ []))
  -- the rows of the diamond have four parents together
  pub diamond_linked :
      InMillis AstarBag diamond no_guess (rows_and_links 512 4) (found 2 ((0 ∷ 2 ∷ 3 ∷ []) ∷ (0 ∷ 1 ∷ 3 ∷ []) ∷ []))
  pub diamond_unlinked : InMillis AstarBag diamond no_guess (rows_and_links 512 3) (stopped (NoLink 2 0))
  -- a row whose roads were followed is taken up again when it is reached at less
  pub detour_astar : InMillis Astar detour detour_guess (rows 512) (found 6 ((0 ∷ 2 ∷ 1 ∷ 3 ∷ []) ∷ []))
  -- the answer is the cost, and not the estimate
  pub high_guess_astar : InMillis Astar (one_road 2) high_guess (rows 512) (found 2 ((0 ∷ 1 ∷ []) ∷ []))
  pub high_guess_idastar : InMillis Idastar (one_road 2) high_guess (rows 512) (found 2 ((0 ∷ 1 ∷ []) ∷ []))
  -- a cost may be the greatest, and a sum above it is refused
  pub greatest_dijkstra : InMillis Dijkstra (greatest_to 1) no_guess (rows 512) (found 4294967295 ((0 ∷ 1 ∷ []) ∷ []))
  pub above_greatest_dijkstra : InMillis Dijkstra (greatest_to 2) no_guess (rows 512) (stopped (NoSum 1 (Some 0)))
  pub above_greatest_idastar : InMillis Idastar (greatest_to 2) no_guess (rows 512) (stopped (NoSum 1 (Some 0)))
  -- a road may weigh nothing, but by astar_bag
  pub zero_astar : InMillis Astar (one_road 0) no_guess (rows 512) (found 0 ((0 ∷ 1 ∷ []) ∷ []))
  pub zero_astar_bag : InMillis AstarBag (one_road 0) no_guess (rows_and_links 512 9) (stopped (ZeroWeight 0 0))
  -- two roads without a trim are lighter than one road with one
  pub trims_dijkstra :
      Answers Dijkstra trims_kind trims no_guess (rows 512) 0 (found (weight_of 0 9000) ((0 ∷ 1 ∷ 2 ∷ []) ∷ []))
  pub trims_astar :
      Answers Astar trims_kind trims no_guess (rows 512) 0 (found (weight_of 0 9000) ((0 ∷ 1 ∷ 2 ∷ []) ∷ []))
  -- a start that is a goal is a route
  pub alone_dijkstra : InMillis Dijkstra alone no_guess (rows 512) (found 0 ((0 ∷ []) ∷ []))
  pub alone_astar : InMillis Astar alone no_guess (rows 512) (found 0 ((0 ∷ []) ∷ []))
  pub alone_idastar : InMillis Idastar alone no_guess (rows 1) (found 0 ((0 ∷ []) ∷ []))
  -- by idastar the start has a row; the least sum with the guess is tried first, and a road back to the path is skipped;
  -- and roads are checked along the ranks, before any is tried
  pub start_row_idastar : InMillis Idastar diamond no_guess (rows 1) (stopped (NoRow 0 0))
  pub order_idastar : InMillis Idastar back_road no_guess (rows 512) (found 3 ((0 ∷ 2 ∷ 3 ∷ []) ∷ []))
  pub faulty_idastar :
      InMillis Idastar faulty_road no_guess (rows 512) (stopped (FaultyRoad 0 (record { rank = 1; depth = 0 })))
  -- the diamond and the detour are lawful
  pub diamond_lawful : IsLawful diamond no_guess
  pub detour_lawful : IsLawful detour detour_guess
  pub three_seeks : ThreeSeeks
  -- what is handed out of both routes over the diamond gives all lightest ones
  pub diamond_all : GiveAll diamond 0 (Some (0 ∷ 2 ∷ 3 ∷ []) ∷ Some (0 ∷ 1 ∷ 3 ∷ []) ∷ None ∷ [])
