-- idastar: paths from the start are tried within a bound, pass by pass, each with a higher bound.
use Rattle.std.specs.Prelude.{ℕ, zero, suc, ◌+◌, ◌-◌, Bool, true, false, List, [], ◌∷◌, ◌++◌, Option, Some, None, Result, Ok, Err, if◌then◌else◌, nat_lt, min}
use Rattle.kinds.specs.Kind.{Kind}
use Rattle.graph.specs.Meaning.{Meaning, Road, opened, closed, faulty}
use Rattle.search.specs.declared.refusal.SeekRefusal.{SeekRefusal}
use Rattle.search.specs.declared.refusal.SeekRefusal.TheVariants.{FaultyRoad, NoSum, NoRow}
use Rattle.search.specs.Capacity.{Capacity}
use Rattle.search.specs.Members.{has}
use Rattle.search.specs.Outcome.{Outcome, none, found, stopped}
use Rattle.search.specs.Ends.{and_then, Turned, more, done}

-- the path: keys from the start, and the end's number and cost
pub record Path : Type 0 where
  pub keys : List ℕ
  pub last : ℕ
  pub key : ℕ
  pub cost : ℕ

-- an open road to a key off the path, and its weight with the guess there, by which it is ordered
pub record Try : Type 0 where
  pub rank : ℕ
  pub key : ℕ
  pub weight : ℕ
  pub order : ℕ

-- what coming to a node shows: the search ends, or the sum exceeds the bound, or its roads are to be tried
pub data Arrival : Type 0 where
  ends : Outcome → Arrival
  exceeds : (sum : ℕ) → Arrival
  opens : Arrival

-- a visit ends the search, or notes the least sum above the bound, if any
pub data Visit : Type 0 where
  over : Outcome → Visit
  notes : Option ℕ → Visit

-- the least of a sum and what was noted
abbrev pub least : Option ℕ → ℕ → ℕ
least None b = b
least (Some a) b = min a b

-- what is tried after a visit that does not end the search
abbrev pub after : Visit → (Option ℕ → Visit) → Visit
after (over o) go = over o
after (notes noted) go = go noted

-- a road among others in their order: of the same order, the earlier rank is first
abbrev pub among : Try → List Try → List Try
among t [] = t ∷ []
among t (u ∷ us) = if nat_lt t.order u.order then t ∷ u ∷ us else u ∷ among t us

-- a road is the path's next step
abbrev pub extended : Path → Try → Path
extended p t = record { keys = p.keys ++ t.key ∷ []; last = p.last + 1; key = t.key; cost = p.cost + t.weight }

-- the start alone
abbrev pub alone : ℕ → Path
alone start = record { keys = start ∷ []; last = 0; key = start; cost = 0 }

-- what a pass leads to: the next bound is the least sum that it noted
abbrev pub next_bound : Visit → Turned ℕ
next_bound (over o) = done o
next_bound (notes None) = done none
next_bound (notes (Some bound)) = more bound

module _ (K : Kind) (M : Meaning) (guess : ℕ → ℕ) where
  -- a road back to the path is skipped, and another is to be tried, if its order fits
  abbrev pub offered : (known fits : Bool) → Path → Try → List Try → Result (List Try) SeekRefusal
  offered true fits p t ts = Ok ts
  offered false true p t ts = Ok (among t ts)
  offered false false p t ts = Err (NoSum p.last (Some t.rank))

  -- the road of a rank
  abbrev pub tried_at : Path → (rank : ℕ) → Road → List Try → Result (List Try) SeekRefusal
  tried_at p rank closed ts = Ok ts
  tried_at p rank (faulty f) ts = Err (FaultyRoad p.last f)
  tried_at p rank (opened k w) ts =
      let t : Try = record { rank = rank; key = k; weight = w; order = w + guess k } in
      offered (has k p.keys) (K.fits w (guess k)) p t ts

  -- the roads to try, from a rank on: checked along the ranks, so that the first that is refused is
  unfoldable pub tries : Path → (left rank : ℕ) → List Try → Result (List Try) SeekRefusal
  tries p zero rank ts = Ok ts
  tries p (suc left) rank ts = and_then (tried_at p rank (M.road p.key rank) ts) (tries p left (rank + 1))

  -- all roads to try
  abbrev pub all_tries : Path → Result (List Try) SeekRefusal
  all_tries p = tries p (M.count p.key) 0 []

  -- a path's end is come to
  abbrev pub arrival : (bound : ℕ) → Path → Arrival
  arrival bound p =
      let sum = p.cost + guess p.key in
      if K.fits p.cost (guess p.key)
      then (if nat_lt bound sum then exceeds sum else (if M.goal p.key then ends (found p.cost (p.keys ∷ [])) else opens))
      else ends (stopped (NoSum p.last None))

  -- a road is tried, if the sum of costs fits
  abbrev pub added : (fits : Bool) → (deeper : Try → Option ℕ → Visit) → Path → Try → Option ℕ → Visit
  added true deeper p t noted = deeper t noted
  added false deeper p t noted = over (stopped (NoSum p.last (Some t.rank)))

  -- each is tried and taken back; what was noted so far goes along
  unfoldable pub try_each : (deeper : Try → Option ℕ → Visit) → Path → List Try → Option ℕ → Visit
  try_each deeper p [] noted = notes noted
  try_each deeper p (t ∷ ts) noted = after (added (K.fits p.cost t.weight) deeper p t noted) (try_each deeper p ts)

  -- all roads from the path's end, unless one is refused
  abbrev pub tried : (deeper : Try → Option ℕ → Visit) → Path → Result (List Try) SeekRefusal → Option ℕ → Visit
  tried deeper p (Ok ts) noted = try_each deeper p ts noted
  tried deeper p (Err r) noted = over (stopped r)

  -- what comes of coming to the path's end
  abbrev pub arrived : Arrival → (deeper : Try → Option ℕ → Visit) → Path → Option ℕ → Visit
  arrived (ends o) deeper p noted = over o
  arrived (exceeds sum) deeper p noted = notes (Some (least noted sum))
  arrived opens deeper p noted = tried deeper p (all_tries p) noted

  -- a road from the end of the path, with so many rows left
  unfoldable pub deeper : (bound left : ℕ) → Path → Try → Option ℕ → Visit
  deeper bound zero p t noted = over (stopped (NoRow p.last t.rank))
  deeper bound (suc left) p t noted = let q = extended p t in arrived (arrival bound q) (deeper bound left q) q noted

  -- one pass, with so many rows left after the start's
  unfoldable pub pass : (left start bound : ℕ) → Visit
  pass left start bound = let p = alone start in arrived (arrival bound p) (deeper bound left p) p None

  -- one turn: a pass within a bound, and what it leads to
  abbrev pub deepen : Capacity → (start bound : ℕ) → Turned ℕ
  deepen cap start bound = next_bound (pass (cap.rows - 1) start bound)
