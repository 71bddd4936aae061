-- What a pass of idastar shows of its graph: a route, or that each route that comes to no key twice weighs at least what
-- it notes.
use Rattle.std.proofs.Common.{◌≡◌, ℕ, zero, suc, ◌+◌, ◌-◌, ◌<◌, ◌≤◌, Bool, true, false, List, [], ◌∷◌, ◌++◌, Option, Some, None, Result, Ok, Err, append_assoc, append-nil, inl, inr, refl, arith}
use Rattle.kinds.specs.Kind.{Kind, IsBounded}
use Rattle.graph.specs.Meaning.{Meaning, IsLawful, opened}
use Rattle.graph.specs.Routes.{IsTrueGuess}
use Rattle.search.specs.declared.refusal.SeekRefusal.{SeekRefusal}
use Rattle.search.specs.Outcome.{Outcome, stopped, none, found}
use Rattle.search.specs.Deepening.{Path, Try, Arrival, ends, exceeds, opens, Visit, over, notes, least, after, extended, alone, arrival, added, try_each, tried, arrived, deeper, pass, next_bound}
use Rattle.search.specs.Members.{In, Distinct, has}
use Rattle.search.proofs.Paths.{Path as Way, weigh, in_count}
use Rattle.search.proofs.Once.{Spends}
use Rattle.search.proofs.Simple.{Clear, clear, has_other}
use Rattle.search.proofs.Tries.{Tries, Gathered, AllGathered, gathered}

-- these go on from the last of those seen
abbrev pub Onward : List ℕ → List ℕ → Type 0
Onward seen [] = Unit {0}
Onward seen (k ∷ ks) = Clear seen ks

headed : {M : Meaning} {k w : ℕ} {ks : List ℕ} (seen : List ℕ) → Way M k ks w → Clear seen ks → (has k seen ≡ false) × Onward (seen ++ k ∷ []) ks
headed seen (Way.ends h g) c = c
headed seen (Way.goes rank h e p) c = c

pub onward : {M : Meaning} {k w : ℕ} {ks : List ℕ} → Way M k ks w → Distinct ks → Onward (k ∷ []) ks
onward (Way.ends h g) a = tt
onward (Way.goes {k = k} {ks = ks} rank h e p) a = clear (k ∷ []) ks a.1 (λ j i. has_other j k ks a.0 i)

-- a graph that keeps its laws, and holds the start
pub record Lawfully (M : Meaning) (guess : ℕ → ℕ) (start : ℕ) : Type 0 where
  pub law : IsLawful M guess
  pub held : M.held start ≡ true

module _ (K : Kind) (M : Meaning) (guess : ℕ → ℕ) (start bound : ℕ) where
  -- what coming to the end of a path shows
  abbrev Seen : Path → Arrival → Type 0
  Seen p (ends (stopped r)) = Unit {0}
  Seen p (ends none) = ⊥
  Seen p (ends (found c rs)) = (c ≡ p.cost) × (rs ≡ p.keys ∷ []) × (M.goal p.key ≡ true) × (c ≤ bound)
  Seen p (exceeds sum) = (sum ≡ p.cost + guess p.key) × (bound < sum) × (IsBounded K → sum ≤ K.greatest)
  Seen p opens = M.goal p.key ≡ false

  seen : (p : Path) → Seen p (arrival K M guess bound p)
  seen p = grind arith

  -- a way on from the path's end is a way on from the start
  pub record Leads (p : Path) : Type 0 where
    pub held : M.held p.key ≡ true
    pub on : (ks : List ℕ) (w : ℕ) → Way M p.key (p.key ∷ ks) w → Way M start (p.keys ++ ks) (p.cost + w)

  pub record Stands (p : Path) : Type 0 where
    pub leads : Lawfully M guess start → Leads p

  extends : (p : Path) (t : Try) → Stands p → Tries K M guess p t → Stands (extended p t)
  extends p t s i = record {
    leads = λ l. record {
      held = l.law.leads p.key t.rank t.key t.weight i.road;
      on = λ ks w a.
          let e : p.cost + t.weight + w ≡ p.cost + (t.weight + w) = omega arith in
          rw (append_assoc, e) ((s.leads l).on (t.key ∷ ks) (t.weight + w) (Way.goes t.rank (s.leads l).held i.road a));
    };
  }

  -- a sum is noted that is no more than v, if the guess is true
  abbrev pub Meets : Option ℕ → ℕ → Type 0
  Meets None v = ⊥
  Meets (Some b) v = IsTrueGuess M guess → b ≤ v

  abbrev pub Rises : Option ℕ → Type 0
  Rises None = Unit {0}
  Rises (Some b) = (bound < b) × (IsBounded K → b ≤ K.greatest)

  -- every way on from the path's end that comes to no key twice
  abbrev pub Bars : Path → Option ℕ → Type 0
  Bars p m = Lawfully M guess start → (ks : List ℕ) (w : ℕ) → Way M p.key ks w → Onward p.keys ks → Meets m (p.cost + w)

  -- what was noted before counts too
  abbrev pub Keeps : Option ℕ → Option ℕ → Type 0
  Keeps n m = ((v : ℕ) → Meets n v → Meets m v) × (Rises n → Rises m)

  noted : (n : Option ℕ) (sum : ℕ) → (bound < sum) × (IsBounded K → sum ≤ K.greatest) → Keeps n (Some (least n sum)) × ((v : ℕ) → (IsTrueGuess M guess → sum ≤ v) → Meets (Some (least n sum)) v)
  noted None sum r = ((λ v h. absurd h, λ h. r), λ v h. h)
  noted (Some b) sum r = ((λ v h t. omega (arith, h t), λ h. (omega arith, λ t. omega (arith, r.1 t))), λ v h t. omega (arith, h t))

  pub record Found (c : ℕ) (rs : List (List ℕ)) : Type 0 where
    pub keys : List ℕ
    pub is : rs ≡ keys ∷ []
    pub way : Lawfully M guess start → Way M start keys c
    pub within : c ≤ bound

  abbrev pub Fair : Outcome → Type 0
  Fair (stopped r) = Unit {0}
  Fair none = ⊥
  Fair (found c rs) = Found c rs

  -- a visit, where n was noted before, ends fairly or leaves what has to hold of what is noted then
  abbrev pub Leaves : (Option ℕ → Type 0) → Option ℕ → Visit → Type 0
  Leaves A n (over o) = Fair o
  Leaves A n (notes m) = A m × Keeps n m

  abbrev pub Fine : Path → Option ℕ → Visit → Type 0
  Fine p n v = Leaves (Bars p) n v

  abbrev AllBar : Path → List Try → Option ℕ → Type 0
  AllBar p ts m = (t : Try) → In t ts → Bars (extended p t) m

  leaves : (A B : Option ℕ → Type 0) (n : Option ℕ) (v : Visit) → ((m : Option ℕ) → A m → B m) → Leaves A n v → Leaves B n v
  leaves A B n (over o) f h = h
  leaves A B n (notes m) f h = (f m h.0, h.1)

  leaves_after : (A B C : Option ℕ → Type 0) (n : Option ℕ) (v : Visit) (g : Option ℕ → Visit) → Leaves A n v → ((m : Option ℕ) → Leaves B m (g m)) → ((m m' : Option ℕ) → A m → Keeps m m' → B m' → C m') → Leaves C n (after v g)
  leaves_after A B C n (over o) g h k f = h
  leaves_after A B C n (notes m) g h k f = go (g m) (k m)
    where
      go : (v : Visit) → Leaves B m v → Leaves C n v
      go (over o) q = q
      go (notes m') q = (f m m' h.0 q.1 q.0, (λ v x. q.1.0 v (h.1.0 v x), λ r. q.1.1 (h.1.1 r)))

  module _ (go_on : Try → Option ℕ → Visit) (p : Path) where
    each_fine : (ts : List Try) → ((t : Try) → In t ts → (n : Option ℕ) → Fine (extended p t) n (go_on t n)) → (n : Option ℕ) → Leaves (AllBar p ts) n (try_each K M guess go_on p ts n)
    unfolding try_each
    each_fine [] f n = (λ t i. absurd i, (λ v h. h, λ r. r))
    each_fine (t ∷ ts) f n =
        leaves_after (Bars (extended p t)) (AllBar p ts) (AllBar p (t ∷ ts)) n _ (try_each K M guess go_on p ts) (added_fine (K.fits p.cost t.weight)) (each_fine ts (λ u i. f u (inr i)))
        (λ m m' a k b u i. elim i [ inl q ↦ rw q (λ l ks w x c. k.0 _ (a l ks w x c)) | inr j ↦ b u j ])
      where
        added_fine : (fits : Bool) → Fine (extended p t) n (added K M guess fits go_on p t n)
        added_fine true = f t (inl refl) n
        added_fine false = tt

    module _ (s : Stands p) (fine : (t : Try) → Tries K M guess p t → (n : Option ℕ) → Fine (extended p t) n (go_on t n)) (n : Option ℕ) where
      bars : (m : Option ℕ) (ts : List Try) → M.goal p.key ≡ false → Gathered K M guess p (M.count p.key) ts → ((t : Try) → In t ts → Bars (extended p t) m) → Lawfully M guess start
          → {k w : ℕ} {ks : List ℕ} → Way M k ks w → k ≡ p.key → Onward p.keys ks → Meets m (p.cost + w)
      bars m ts g all f l (Way.ends h h') q c = cc
      bars m ts g all f l (Way.goes {to = to} {w = w} {v = v} {ks = ks} rank h e a) q c =
          let e' : M.road p.key rank ≡ opened to w = cc in
          let z = headed p.keys a c in
          let i = all.all rank to w (in_count M guess l.law p.key to rank w e') e' z.0 in
          let y : p.cost + (w + v) ≡ p.cost + w + v = omega arith in
          rw y (f _ i l ks v a z.1)

      tried_fine : M.goal p.key ≡ false → (f : Result (List Try) SeekRefusal) → AllGathered K M guess p (M.count p.key) f → Fine p n (tried K M guess go_on p f n)
      tried_fine g (Err f) all = tt
      tried_fine g (Ok ts) all = leaves (AllBar p ts) (Bars p) n _ (λ m h l ks w a c. bars m ts g all h l a refl c) (each_fine ts (λ t i. fine t (all.only t i)) n)

      arrived_fine : (a : Arrival) → Seen p a → Fine p n (arrived K M guess a go_on p n)
      arrived_fine (ends (stopped r)) h = tt
      arrived_fine (ends none) h = h
      arrived_fine (ends (found c rs)) h = record {
        keys = p.keys;
        is = h.1;
        way = λ l. let e : p.cost + 0 ≡ c = omega arith in rw (e, append-nil) at ((s.leads l).on [] 0 (Way.ends (s.leads l).held h.2));
        within = h.3;
      }
      arrived_fine (exceeds sum) h =
          let z = noted n sum (h.1, h.2) in
          (λ l ks w a c. z.1 _ (λ t. let u = weigh M guess l.law a in omega (arith, t p.key ks u.0 (s.leads l).held u.1, u.2)), z.0)
      arrived_fine opens h = tried_fine h _ (gathered K M guess p)

  deeper_fine : (left : ℕ) (p : Path) → Stands p → (t : Try) → Tries K M guess p t → (n : Option ℕ) → Fine (extended p t) n (deeper K M guess bound left p t n)
  unfolding deeper
  deeper_fine zero p s t i n = tt
  deeper_fine (suc left) p s t i n = let q = extended p t in let z = extends p t s i in arrived_fine (deeper K M guess bound left q) q z (deeper_fine left q z) n _ (seen q)

  pub pass_fine : (left : ℕ) → Fine (alone start) None (pass K M guess left start bound)
  unfolding pass
  pass_fine left =
      let p = alone start in
      let s : Stands p = record { leads = λ l. record { held = l.held; on = λ ks w a. let e : 0 + w ≡ w = omega arith in rw e a } } in
      arrived_fine (deeper K M guess bound left p) p s (deeper_fine left p s) None _ (seen p)

  -- the next bound is nearer to the greatest
  pub lowers : (v : Visit) → Fine (alone start) None v → IsBounded K → Spends (λ b. Unit {0}) (λ b. K.greatest - b) bound (next_bound v)
  lowers (over o) f h = tt
  lowers (notes None) f h = tt
  lowers (notes (Some m)) f h = let r = f.1.1 tt in (tt, omega (arith, r.1 h))
