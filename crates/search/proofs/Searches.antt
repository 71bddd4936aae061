-- The laws of the searches, method by method.
use Rattle.std.proofs.Common.{◌≡◌, ℕ, Bool, true, false, refl, arith}
use Rattle.kinds.specs.Kind.{Kind, IsBounded}
use Rattle.graph.specs.Meaning.{Meaning, IsLawful}
use Rattle.graph.specs.Routes.{IsTrueGuess}
use Rattle.graph.specs.Lawful.{unguided_lawful}
use Rattle.search.specs.declared.refusal.SeekRefusal.TheVariants.{NotHeld}
use Rattle.search.specs.declared.method.Method.{Method}
use Rattle.search.specs.declared.method.Method.TheVariants.{Dijkstra, Astar, AstarBag, Fringe, Idastar}
use Rattle.search.specs.Outcome.{Outcome, stopped}
use Rattle.search.specs.Capacity.{Capacity}
use Rattle.search.specs.Best.{by_sum, by_guess}
use Rattle.search.specs.Answers.{Comes, if_held}
use Rattle.search.specs.Laws.{Founded, Guided, keeps_of, Shows, SearchesRight, SearchesEnd}
use Rattle.graph.proofs.Kept.{piles_keep_truth}
use Rattle.search.proofs.Heap.{sums, guesses}
use Rattle.search.proofs.HeapEnds.{best_ends, bag_ends}
use Rattle.search.proofs.BestTurns.{best_shows}
use Rattle.search.proofs.BagTurns.{bag_shows}
use Rattle.search.proofs.FringeTurns.{fringe_shows}
use Rattle.search.proofs.FringeEnds.{fringe_ends}
use Rattle.search.proofs.Deepens.{deepens_shows, deepens_come}

module _ (K : Kind) (M : Meaning) (guess : ℕ → ℕ) (cap : Capacity) (start : ℕ) where
  -- a pile over a graph with a true guess has a true guess
  truth : Founded K M guess → IsTrueGuess M guess
  truth f = (piles_keep_truth K f.bottom f.bottom_guess M guess f.pile).1 f.truth

  shows : (m : Method) → IsLawful M guess → M.held start ≡ true → (o : Outcome) → Comes m K M guess cap start o → Shows (keeps_of m) M (Guided K m M guess) start o
  shows Dijkstra law = best_shows K M sums cap (unguided_lawful M guess law) (Unit {0}) (λ u k ks w h r. omega arith) start
  shows Astar law = best_shows K M (guesses K guess) cap law (Founded K M guess) truth start
  shows AstarBag law = bag_shows K M guess cap law (Founded K M guess) truth start
  shows Fringe law = fringe_shows K M guess cap law (Founded K M guess) truth start
  shows Idastar law = deepens_shows K M guess start cap law (Founded K M guess) truth

  right : (m : Method) → IsLawful M guess → (b : Bool) → M.held start ≡ b → (o : Outcome) → if_held b (Comes m K M guess cap start) o → Shows (keeps_of m) M (Guided K m M guess) start o
  right m law true h o e = shows m law h o e
  right m law false h o e = rw e tt

  -- there is an outcome, and no other
  abbrev One : (Outcome → Type 0) → Type 0
  One P = (o : Outcome) × P o × ((o' : Outcome) → P o' → o' ≡ o)

  come : (m : Method) → IsBounded K → One (Comes m K M guess cap start)
  come Dijkstra bound = best_ends K M by_sum cap bound start
  come Astar bound = best_ends K M (by_guess K guess) cap bound start
  come AstarBag bound = bag_ends K M guess cap bound start
  come Fringe bound = fringe_ends K M guess cap bound start
  come Idastar bound = deepens_come K M guess start cap bound (guess start)

  one : (m : Method) → IsBounded K → (b : Bool) → One (if_held b (Comes m K M guess cap start))
  one m bound true = come m bound
  one m bound false = (stopped NotHeld, refl, λ o' e. e)

pub searches_right : SearchesRight
searches_right m K M guess cap start law o e = right K M guess cap start m law (M.held start) refl o e

pub searches_end : SearchesEnd
searches_end m K M guess cap start bound = one K M guess cap start m bound (M.held start)
