-- dijkstra and astar: each turn keeps the invariant, and the outcome shows what it should.
use Rattle.std.proofs.Common.{◌≡◌, ℕ, ◌≤◌, Bool, true, false, List, get_or, Some, None, Option, refl, arith}
use Rattle.std.proofs.lemmas.Option.{slice_get-get_or}
use Rattle.kinds.specs.Kind.{Kind}
use Rattle.graph.specs.Meaning.{Meaning, IsLawful}
use Rattle.graph.specs.Routes.{IsTrueGuess}
use Rattle.search.specs.Capacity.{Capacity}
use Rattle.search.specs.Outcome.{Outcome}
use Rattle.search.specs.Ends.{Turned, Ends}
use Rattle.search.specs.Laws.{Shows}
use Rattle.search.specs.Rows.{Row, no_row}
use Rattle.search.specs.Roads.{State, one}
use Rattle.search.specs.Queue.{Entry, first_out}
use Rattle.search.specs.Best.{Estimate, taken, best, begin}
use Rattle.search.proofs.Once.{After, after_turned, through}
use Rattle.search.proofs.Places.{At}
use Rattle.search.proofs.Frontier.{no_route, no_lighter}
use Rattle.search.proofs.Heap.{By, Waits, Going, first_none, first_in, first_low, first_under, take_keeps, begin_going}
use Rattle.search.proofs.Shown.{NoneTook, shows_one}

module _ (K : Kind) (M : Meaning) {guess : ℕ → ℕ} {estimate : Estimate} (by : By estimate guess) (cap : Capacity) (law : IsLawful M guess) (Guided : Type 0) (guided : Guided → IsTrueGuess M guess) (start : ℕ) where
  abbrev Good : State (List Entry) → Type 0
  Good = Going K M by cap one law start NoneTook

  abbrev AfterTurn : Turned (State (List Entry)) → Type 0
  AfterTurn = After Good (Shows one M Guided start)

  taken_keeps : (s : State (List Entry)) → Good s → (e : Entry) → first_out s.waits ≡ Some e → (r : Row) → At s.rows e.row r → get_or s.rows e.row no_row ≡ r → (b : Bool) → M.goal r.key ≡ b → AfterTurn (taken K M estimate cap b e.row s)
  unfolding taken
  taken_keeps s g e f r a is true q =
      let low : r.cost ≤ e.estimate = first_low K M by cap one law start NoneTook s g e f r is in
      rw is (shows_one M guess law Guided start s.rows g.inv.tree e.row r a q
      (λ t. no_lighter one M start NoneTook (Waits s.waits) s.rows g.inv guess law (guided t) r.cost (λ j p b w. omega (arith, first_under K M by cap one law start NoneTook s g e f r is j p b w)) (λ j p b h. absurd h)))
  taken_keeps s g e f r a is false q =
      after_turned Good (Shows one M Guided start) (λ x. tt) _ (λ t p. (take_keeps K M by cap one law start NoneTook s g e f r is NoneTook a (λ m h. h) (λ h. cc) t p).0)

  turn_keeps : (s : State (List Entry)) → Good s → (o : Option Entry) → first_out s.waits ≡ o → AfterTurn (best K M estimate cap o s)
  unfolding best
  turn_keeps s g None f = λ ks r. no_route one M start NoneTook (Waits s.waits) s.rows g.inv (λ j b. first_none s.waits f b.entry b.there) (λ j t. t) ks r.0 r.1
  turn_keeps s g (Some e) f =
      taken_keeps s g e f (get_or s.rows e.row no_row) (slice_get-get_or s.rows e.row no_row (g.fair e (first_in s.waits e f)).within) refl _ refl

  pub best_shows : M.held start ≡ true → (o : Outcome) → Ends (λ s. best K M estimate cap (first_out s.waits) s) (begin start) o → Shows one M Guided start o
  best_shows h o e = through (λ s. best K M estimate cap (first_out s.waits) s) Good (Shows one M Guided start) (λ s g. turn_keeps s g (first_out s.waits) refl) (begin_going K M by cap one law start h NoneTook) e
