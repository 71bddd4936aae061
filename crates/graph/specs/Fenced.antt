-- A graph under a fence: a key whose zone is barred is not held, and roads that lead to such a key are closed.
use Rattle.std.specs.Prelude.{ℕ, Bool, false, cond, List}
use Rattle.graph.specs.Meaning.{Road, opened, closed, faulty, Meaning}
use Rattle.graph.specs.Deeper.{deeper}
use Rattle.graph.specs.Zones.{in_table}

-- a road of the graph below, closed where it leads to a barred key
abbrev pub fenced_road : List Bool → Meaning → Road → Road
fenced_road barred M (opened to w) = cond (in_table barred M to) closed (opened to w)
fenced_road barred M closed = closed
fenced_road barred M (faulty f) = faulty (deeper f)

-- the graph past the fence
abbrev pub fenced : List Bool → Meaning → Meaning
fenced barred M =
    record {
      held = λ k. cond (in_table barred M k) false (M.held k);
      zone = λ k. cond (in_table barred M k) 0 (M.zone k);
      count = λ k. cond (in_table barred M k) 0 (M.count k);
      road = λ k rank. cond (in_table barred M k) closed (fenced_road barred M (M.road k rank));
      goal = λ k. cond (in_table barred M k) false (M.goal k);
    }

-- its guess: that of the graph below, and zero at barred keys
abbrev pub fenced_guess : List Bool → Meaning → (ℕ → ℕ) → ℕ → ℕ
fenced_guess barred M guess k = cond (in_table barred M k) 0 (guess k)
