-- The loop of idastar ends from every state, and comes to what idastar comes to.
use Rattle.std.proofs.Common.{◌≡◌, ℕ, zero, suc, ◌+◌, ◌-◌, ◌<◌, ◌≤◌, Bool, true, false, ltb, List, [], ◌∷◌, Option, Some, None, Result, Ok, Err, refl, ◌∙◌, arith}
use Rattle.std.proofs.lemmas.Bool.{ltb-true, ltb-false}
use Rattle.kinds.specs.Kind.{Kind, IsBounded}
use Rattle.graph.specs.Meaning.{Meaning}
use Rattle.search.specs.declared.refusal.SeekRefusal.{SeekRefusal}
use Rattle.search.specs.Capacity.{Capacity}
use Rattle.search.specs.Outcome.{Outcome, none}
use Rattle.search.specs.Ends.{Turned, more, done, Ends, last, next}
use Rattle.search.specs.Deepening.{Path, Try, Arrival, ends, exceeds, opens, Visit, over, notes, after, extended, alone, all_tries, arrival, added, try_each, tried, arrived, deeper, pass, next_bound, deepen}
use Rattle.search.specs.Loop.{Next, nothing, refuses, back, tries, Keeping, State}
use Rattle.search.specs.Loop as loop
use Rattle.search.proofs.Once.{once}
use Rattle.search.proofs.Turns.{left, left_falls}
use Rattle.search.proofs.Deepens.{deepens_come}

-- a node of the path, with the roads that are still to be tried from it
pub record Frame : Type 0 where
  pub at : Path
  pub rest : Result (List Try) SeekRefusal

-- what is next where a path is kept that stands for these frames, the last first; On says which paths have one node more
module _ {F : Type 0} (stands : F → List Frame) (On : Path → F → Type 0) where
  abbrev FollowsAt : Result (List Try) SeekRefusal → Path → List Frame → Next F → Type 0
  FollowsAt (Err r) p fs x = x ≡ refuses r
  FollowsAt (Ok []) p fs x = (f : F) × (x ≡ back f) × (stands f ≡ fs)
  FollowsAt (Ok (t ∷ ts)) p fs x = (f : F) × (x ≡ tries p t f) × (stands f ≡ record { at = p; rest = Ok ts } ∷ fs) × On (extended p t) f

  abbrev pub Follows : List Frame → Next F → Type 0
  Follows [] x = x ≡ nothing
  Follows (f ∷ fs) x = FollowsAt f.rest f.at fs x

pub record Keeps {F : Type 0} (K : Kind) (M : Meaning) (guess : ℕ → ℕ) (W : Keeping F) (stands : F → List Frame) : Type 1 where
  pub On : Path → F → Type 0
  pub empty : stands W.empty ≡ []
  pub first : (k : ℕ) → On (alone k) W.empty
  pub next : (f : F) → Follows stands On (stands f) (W.next f)
  pub push : (p : Path) (f : F) → On p f → stands (W.push p f) ≡ record { at = p; rest = all_tries K M guess p } ∷ stands f

module _ {F : Type 0} (K : Kind) (M : Meaning) (guess : ℕ → ℕ) (cap : Capacity) (start : ℕ) (W : Keeping F) (stands : F → List Frame) (keeps : Keeps K M guess W stands) where
  abbrev turn : State F → Turned (State F)
  turn s = loop.turn W K M guess cap start s

  abbrev room : Path → ℕ
  room p = cap.rows - (p.last + 1)

  module _ (bound : ℕ) where
    abbrev at : F → Option ℕ → State F
    at f n = record { path = f; bound = bound; noted = n }

    abbrev below : Path → Try → Option ℕ → Visit
    below p = deeper K M guess bound (room p) p

    -- what the rest of a pass comes to
    resume : List Frame → Option ℕ → Visit
    resume [] n = notes n
    resume (f ∷ fs) n = after (tried K M guess (below f.at) f.at f.rest n) (resume fs)

    module _ (o : Outcome) where
      -- the loop comes to o from these frames on
      abbrev Back : List Frame → Option ℕ → Type 0
      Back fs n = (f : F) → stands f ≡ fs → Ends turn (at f n) o

      -- a visit comes to o, or to what leads to it
      abbrev To : Visit → (Option ℕ → Type 0) → Type 0
      To (over o') B = o' ≡ o
      To (notes n) B = B n

      abbrev Runs : Turned (State F) → Type 0
      Runs (more s) = Ends turn s o
      Runs (done o') = o' ≡ o

      runs : (s : State F) → Runs (turn s) → Ends turn s o
      runs s = elim (turn s) as (λ x. turn s ≡ x → Runs x → Ends turn s o) [
        | more t ↦ λ e h. next e h
        | done o' ↦ λ e q. last (rw (← q) e)
      ] refl

      to_after : (v : Visit) (g : Option ℕ → Visit) (B C : Option ℕ → Type 0) → ((n : Option ℕ) → To (g n) B → C n) → To (after v g) B → To v C
      to_after (over o') g B C f h = h
      to_after (notes n) g B C f h = f n h

      -- coming to a path with fewer rows left
      abbrev Down : ℕ → Type 0
      Down left = (p : Path) → room p < left → (f : F) → keeps.On p f → (n : Option ℕ) → To (arrived K M guess (arrival K M guess bound p) (below p) p n) (Back (stands f)) → Runs (loop.arrive W K M guess p (at f n))

      module _ (left : ℕ) (down : Down left) (p : Path) (l : room p ≤ left) where
        with_row : (b : Bool) → ltb (p.last + 1) cap.rows ≡ b → (t : Try) (f : F) → keeps.On (extended p t) f → (n : Option ℕ) → To (below p t n) (Back (stands f)) → Runs (loop.with_row W K M guess cap b p t (at f n))
        unfolding deeper
        with_row true e t f h n v =
            let g = ltb-true _ _ e in
            let z : room p ≡ suc (room (extended p t)) = omega arith in
            down (extended p t) (omega arith) f h n (rw z at v)
        with_row false e t f h n v = let g = ltb-false _ _ e in let z : room p ≡ 0 = omega arith in rw z at v

        summed : (b : Bool) (t : Try) (f : F) → keeps.On (extended p t) f → (n : Option ℕ) → To (added K M guess b (below p) p t n) (Back (stands f)) → Runs (loop.summed W K M guess cap b p t (at f n))
        summed true t f h n v = with_row _ refl t f h n v
        summed false t f h n v = v

        tries_run : (ts : List Try) (fs : List Frame) (f : F) → stands f ≡ record { at = p; rest = Ok ts } ∷ fs → (n : Option ℕ) → To (try_each K M guess (below p) p ts n) (Back fs) → Ends turn (at f n) o
        unfolding try_each loop.turn
        tries_run [] fs f e n v = let z = rw e at (keeps.next f) in runs _ (rw z.1 (v z.0 z.2))
        tries_run (t ∷ ts) fs f e n v =
            let z = rw e at (keeps.next f) in
            let h = to_after (added K M guess (K.fits p.cost t.weight) (below p) p t n) (try_each K M guess (below p) p ts) (Back fs) (Back (stands z.0)) (λ m w g q. tries_run ts fs g (q ∙ z.2) m w) v in
            runs _ (rw z.1 (summed _ t z.0 z.3 n h))

        rest_runs : (r : Result (List Try) SeekRefusal) (fs : List Frame) (f : F) → stands f ≡ record { at = p; rest = r } ∷ fs → (n : Option ℕ) → To (tried K M guess (below p) p r n) (Back fs) → Ends turn (at f n) o
        unfolding loop.turn
        rest_runs (Ok ts) fs f e n v = tries_run ts fs f e n v
        rest_runs (Err r) fs f e n v = let z = rw e at (keeps.next f) in runs _ (rw z v)

        arrived_runs : (a : Arrival) (f : F) → keeps.On p f → (n : Option ℕ) → To (arrived K M guess a (below p) p n) (Back (stands f)) → Runs (loop.arrived W K M guess a p (at f n))
        arrived_runs (ends o') f h n v = v
        arrived_runs (exceeds sum) f h n v = v f refl
        arrived_runs opens f h n v = rest_runs _ (stands f) (W.push p f) (keeps.push p f h) n v

      arrive : (left : ℕ) → Down left
      arrive zero p l f h n v = absurd (omega arith)
      arrive (suc left) p l f h n v = arrived_runs left (arrive left) p (omega arith) _ f h n v

      resumes : (fs : List Frame) (f : F) → stands f ≡ fs → (n : Option ℕ) → To (resume fs n) (Back []) → Ends turn (at f n) o
      unfolding resume
      resumes [] f e n v = v f e
      resumes (g ∷ fs) f e n v = rest_runs (room g.at) (arrive (room g.at)) g.at (omega arith) g.rest fs f e n (to_after _ (resume fs) (Back []) (Back fs) (λ m w f e. resumes fs f e m w) v)

  -- a pass begins
  begins : (b : ℕ) (o : Outcome) → To b o (pass K M guess (cap.rows - 1) start b) (Back b o []) → (bound : ℕ) → Back bound o [] (Some b)
  unfolding loop.turn pass
  begins b o v bound f e = let z = rw e at (keeps.next f) in runs bound o _ (rw z (arrive b o (suc (room (alone start))) (alone start) (omega arith) W.empty (keeps.first start) None (rw keeps.empty v)))

  stops : (bound : ℕ) (o : Outcome) → none ≡ o → Back bound o [] None
  unfolding loop.turn
  stops bound o q f e = let z = rw e at (keeps.next f) in runs bound o _ (rw z q)

  -- the passes lead to o, and so do the turns
  passes : {b : ℕ} {o : Outcome} → Ends (deepen K M guess cap start) b o → (bound : ℕ) → Back bound o [] (Some b)
  passes (last {s = b} {o = o} q) = begins b o (go (pass K M guess (cap.rows - 1) start b) q)
    where
      go : (v : Visit) → next_bound v ≡ done o → To b o v (Back b o [])
      go (over o') q = cc
      go (notes None) q = stops b o (cc)
      go (notes (Some c)) q = cc
  passes (next {s = b} {t = c} {o = o} q h) = begins b o (go (pass K M guess (cap.rows - 1) start b) q (passes h))
    where
      go : (v : Visit) → next_bound v ≡ more c → ((bound : ℕ) → Back bound o [] (Some c)) → To b o v (Back b o [])
      go (over o') q i = cc
      go (notes None) q i = cc
      go (notes (Some d)) q i = let z : d ≡ c = cc in rw z (i b)

  module _ (bounded : IsBounded K) where
    pub loop_comes : (s : State F) → (o : Outcome) × Ends turn s o
    loop_comes s = go (resume s.bound (stands s.path) s.noted) refl
      where
        leads : (o : Outcome) → To s.bound o (resume s.bound (stands s.path) s.noted) (Back s.bound o []) → Ends turn s o
        leads o v = resumes s.bound o (stands s.path) s.path refl s.noted v

        go : (v : Visit) → resume s.bound (stands s.path) s.noted ≡ v → (o : Outcome) × Ends turn s o
        go (over o) e = (o, leads o (rw e refl))
        go (notes None) e = (none, leads none (rw e (stops s.bound none refl)))
        go (notes (Some b)) e = let c = deepens_come K M guess start cap bounded b in (c.0, leads c.0 (rw e (passes c.1 s.bound)))

    -- the loop comes to what the passes come to
    pub loop_deepens : {o : Outcome} → Ends turn (loop.idle W K M guess cap start) o → Ends (deepen K M guess cap start) (guess start) o
    loop_deepens {o = o} h = let c = deepens_come K M guess start cap bounded (guess start) in let q : c.0 ≡ o = once turn (passes c.1 0 W.empty keeps.empty) h in rw q at c.1

    -- what is left to do, which each turn lowers
    pub loop_left : State F → ℕ
    loop_left = left turn loop_comes

    pub loop_falls : (s t : State F) → more t ≡ loop.turn W K M guess cap start s → loop_left t < loop_left s
    unfolding loop_left
    loop_falls = left_falls turn loop_comes
