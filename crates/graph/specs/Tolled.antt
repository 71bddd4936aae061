-- A graph under a toll: every open road whose end is in a charged zone costs the toll more, and is faulty where the sum
-- does not fit.
use Rattle.std.specs.Prelude.{ℕ, ◌+◌, Bool, cond, List}
use Rattle.kinds.specs.Kind.{Kind}
use Rattle.graph.specs.Meaning.{Road, opened, closed, faulty, Meaning}
use Rattle.graph.specs.Deeper.{deeper}
use Rattle.graph.specs.Zones.{in_table}

-- an open road of a rank with the toll added to its weight
abbrev pub dearer : Kind → (toll rank to w : ℕ) → Road
dearer K toll rank to w =
    cond (K.fits w toll) (opened to (w + toll)) (faulty (record { rank = rank; depth = 0 }))

-- a road of the graph below, dearer where it leads to a charged key
abbrev pub tolled_road : Kind → List Bool → ℕ → Meaning → ℕ → Road → Road
tolled_road K charged toll M rank (opened to w) =
    cond (in_table charged M to) (dearer K toll rank to w) (opened to w)
tolled_road K charged toll M rank closed = closed
tolled_road K charged toll M rank (faulty f) = faulty (deeper f)

-- the graph past the toll; its guess is that of the graph below
abbrev pub tolled : Kind → List Bool → ℕ → Meaning → Meaning
tolled K charged toll M =
    record {
      held = M.held;
      zone = M.zone;
      count = M.count;
      road = λ k rank. tolled_road K charged toll M rank (M.road k rank);
      goal = M.goal;
    }
