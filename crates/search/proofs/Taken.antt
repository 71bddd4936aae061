-- A seek with the hand-out after it, by the laws of the searches.
use Rattle.std.proofs.Common.{◌≡◌, ℕ, ◌<◌, ◌≤◌, List, [], ◌∷◌, refl, arith}
use Rattle.kinds.specs.Kind.{Kind}
use Rattle.graph.specs.Meaning.{Meaning, IsLawful}
use Rattle.search.specs.declared.refusal.HandOutRefusal.{HandOutRefusal}
use Rattle.search.specs.declared.method.Method.{Method}
use Rattle.search.specs.Outcome.{Outcome, stopped, none, found, routes}
use Rattle.search.specs.Answers.{Answers}
use Rattle.search.specs.Calls.{Held, costs, no_route, gave, finished, denied, answer, Seek, handed, HandOut}
use Rattle.search.specs.Laws.{Guided, keeps_of, Shows}
use Rattle.search.specs.History.{Begins}
use Rattle.search.specs.Taken.{Taken, FoundRoute, Answered, Calls}
use Rattle.search.specs.Taken as taken
use Rattle.search.proofs.Fits.{fits}
use Rattle.search.proofs.Searches.{searches_right}

module _ (K : Kind) (m : Method) (M : Meaning) (guess : ℕ → ℕ) (law : IsLawful M guess) (start room : ℕ) (s u t : Held) where
  -- the routes that a seek with a cost leaves are those that its method found
  record Leaves (c : ℕ) : Type 0 where
    listed : List (List ℕ)
    comes : Answers m K M guess s.capacity start (found c listed)
    left : u.pending ≡ listed

  leaves : (c : ℕ) → Seek K s m M guess start (costs c) u → Leaves c
  leaves c k = by k.outcome k.comes k.answers (rw k.leaves refl)
    where
      by : (o : Outcome) → Answers m K M guess s.capacity start o → costs c ≡ answer o → u.pending ≡ routes o → Leaves c
      by (found c' rs) e q l = let z : c ≡ c' = cc in rw z (record { listed = rs; comes = e; left = l })
      by none e q l = cc
      by (stopped r) e q l = cc

  shows : (o : Outcome) → Answers m K M guess s.capacity start o → Shows (keeps_of m) M (Guided K m M guess) start o
  shows o e = searches_right m K M guess s.capacity start law o e

  pub taken_route : (c : ℕ) (ks : List ℕ) → Seek K s m M guess start (costs c) u → HandOut u room (gave ks) t → FoundRoute K m M guess start ks c
  taken_route c ks k h = let l = leaves c k in by l.listed l.comes (rw l.left at h.gives)
    where
      by : (rs : List (List ℕ)) → Answers m K M guess s.capacity start (found c rs) → gave ks ≡ handed rs room → FoundRoute K m M guess start ks c
      by [] e q = cc
      by (r ∷ rs) e q =
          let z : ks ≡ r = grind arith in
          let f = shows (found c (r ∷ rs)) e in
          rw z (record { route = f.routes.0; cheapest = λ g. let a = f.lightest g in (record { weight = c; weighs = a.weigh.0; least = a.least }, refl) })

  -- after a seek with a cost a hand-out does not answer finished
  pub not_finished : (c : ℕ) → Seek K s m M guess start (costs c) u → HandOut u room finished t → ⊥
  not_finished c k h = let l = leaves c k in by l.listed l.comes (rw l.left at h.gives)
    where
      by : (rs : List (List ℕ)) → Answers m K M guess s.capacity start (found c rs) → finished ≡ handed rs room → ⊥
      by [] e q = absurd (omega (arith, (shows (found c []) e).some))
      by (r ∷ rs) e q = grind arith

  pub none_begins : Seek K s m M guess start no_route u → Begins M start → ⊥
  none_begins k b = by k.outcome k.comes k.answers
    where
      by : (o : Outcome) → Answers m K M guess s.capacity start o → no_route ≡ answer o → ⊥
      by none e q = shows none e b.0 b.1
      by (found c rs) e q = cc
      by (stopped r) e q = cc

  -- nor, with room for as many nodes as there are rows, and for one at least, is it refused
  pub not_denied : (c : ℕ) (x : HandOutRefusal) → 0 < room → s.capacity.rows ≤ room → Seek K s m M guess start (costs c) u → HandOut u room (denied x) t → ⊥
  not_denied c x some enough k h = let l = leaves c k in by l.listed l.comes (rw l.left at h.gives)
    where
      by : (rs : List (List ℕ)) → Answers m K M guess s.capacity start (found c rs) → denied x ≡ handed rs room → ⊥
      by [] e q = cc
      by (r ∷ rs) e q = let f = fits K M guess s.capacity room some enough start (found c (r ∷ rs)) m e in grind (arith, f.0)

-- such calls answer so
pub answered : (K : Kind) (m : Method) (M : Meaning) (guess : ℕ → ℕ) → IsLawful M guess → (start room : ℕ) (s t : Held) (x : Taken) → Calls K m M guess start room s x t → Answered (FoundRoute K m M guess start) M start x
answered K m M guess law start room s t (taken.route ks c) k = taken_route K m M guess law start room s k.between t c ks k.seek k.hand_out
answered K m M guess law start room s t taken.none k = none_begins K m M guess law start room s t t k
answered K m M guess law start room s t (taken.seek_refused r) k = tt
answered K m M guess law start room s t (taken.hand_out_refused r) k = tt
