-- The path of idastar in rows stands for frames with the roads that are still to be tried.
use Rattle.std.proofs.Common.{◌≡◌, ℕ, zero, suc, ◌+◌, ◌<◌, Bool, true, false, List, [], ◌∷◌, ◌++◌, length, map, take, get_or, Option, Some, None, Result, Ok, Err, append_assoc, append-nil, inl, inr, refl, sym, ap, ◌∙◌, arith}
use Rattle.std.specs.List.{filter}
use Rattle.std.proofs.Math.Seq.{get_or-append_seam, set-append_seam, take-append_seam, take-length}
use Rattle.std.proofs.lemmas.List.{length-append, map-append, take_more, length-take-le}
use Rattle.kinds.specs.Kind.{Kind, IsBounded}
use Rattle.graph.specs.Meaning.{Meaning}
use Rattle.search.specs.declared.refusal.SeekRefusal.{SeekRefusal}
use Rattle.search.specs.Capacity.{Capacity}
use Rattle.search.specs.Outcome.{Outcome}
use Rattle.search.specs.Ends.{more, Ends}
use Rattle.search.specs.Deepening.{Path, Try, extended, all_tries, deepen}
use Rattle.search.specs.Loop.{State, turn, idle}
use Rattle.search.specs.Scan.{Left, untried, last, listed, Row, no_row, due, tried_road, from_road, from_ranks, from_all, picked, path_to, scanned, from_left, next_row, in_rows}
use Rattle.search.specs.Members.{In}
use Rattle.search.proofs.Places.{in_filter}
use Rattle.search.proofs.Tries.{Tries, AllGathered, gathered}
use Rattle.search.proofs.Order.{head, heads, scan_is, tried_next, all_due}
use Rattle.search.proofs.Loops.{Frame, Follows, Keeps, loop_left, loop_falls, loop_deepens}

abbrev more_of : Option Try → List Try → List Try
more_of None ts = []
more_of (Some t) ts = t ∷ ts

module _ (K : Kind) (M : Meaning) (guess : ℕ → ℕ) where
  due_of : Option Try → Result (List Try) SeekRefusal → Result (List Try) SeekRefusal
  due_of o (Ok ts) = Ok (filter (due o) ts)
  due_of o (Err r) = Err r

  due_none : (x : Result (List Try) SeekRefusal) → due_of None x ≡ x
  unfolding due_of
  due_none (Ok ts) = ap (λ us. Ok us) (all_due None ts (λ u i. refl))
  due_none (Err r) = refl

  -- the roads of these ranks, as far as they are open and have a sum with the guess
  ranked : (key : ℕ) → List ℕ → List Try
  ranked key [] = []
  ranked key (rank ∷ ranks) = more_of (tried_road K M guess rank (M.road key rank)) (ranked key ranks)

  rest_of : Left → Path → Result (List Try) SeekRefusal
  rest_of untried p = all_tries K M guess p
  rest_of (last rank) p = due_of (tried_road K M guess rank (M.road p.key rank)) (all_tries K M guess p)
  rest_of (listed ranks) p = Ok (ranked p.key ranks)

  -- a row after n of these keys
  frame : List ℕ → ℕ → Row → Frame
  frame keys n r =
      let p : Path = record { keys = keys ++ r.key ∷ []; last = n; key = r.key; cost = r.cost } in
      record { at = p; rest = rest_of r.left p }

  stack : List ℕ → ℕ → List Row → List Frame → List Frame
  stack keys n [] fs = fs
  stack keys n (r ∷ rs) fs = stack (keys ++ r.key ∷ []) (n + 1) rs (frame keys n r ∷ fs)

  stack_more : (keys : List ℕ) (n : ℕ) (rs : List Row) (r : Row) (fs : List Frame) → stack keys n (rs ++ r ∷ []) fs ≡ frame (keys ++ map (λ r. r.key) rs) (n + length rs) r ∷ stack keys n rs fs
  unfolding stack
  stack_more keys n [] r fs = let e : n + 0 ≡ n = omega arith in rw (append-nil, e) refl
  stack_more keys n (x ∷ rs) r fs = let e : n + suc (length rs) ≡ n + 1 + length rs = omega arith in let z = stack_more (keys ++ x.key ∷ []) (n + 1) rs r (frame keys n x ∷ fs) in rw e (rw append_assoc at z)

  pub stands : List Row → List Frame
  stands rows = stack [] 0 rows []

  stands_more : (rs : List Row) (r : Row) → stands (rs ++ r ∷ []) ≡ frame (map (λ r. r.key) rs) (length rs) r ∷ stands rs
  unfolding stands
  stands_more rs r = let e : 0 + length rs ≡ length rs = omega arith in rw e at (stack_more [] 0 rs r [])

  tried_is : (p : Path) (t : Try) → Tries K M guess p t → tried_road K M guess t.rank (M.road p.key t.rank) ≡ Some t
  tried_is p t i = rw (i.road, i.fits, ← i.order) refl

  ranked_is : (p : Path) (ts : List Try) → ((t : Try) → In t ts → Tries K M guess p t) → ranked p.key (map (λ t. t.rank) ts) ≡ ts
  unfolding ranked
  ranked_is p [] f = refl
  ranked_is p (t ∷ ts) f = rw (tried_is p t (f t (inl refl)), ranked_is p ts (λ u i. f u (inr i))) refl

  -- these rows and one more
  abbrev On : Path → List Row → Type 0
  On p rows = (p.keys ≡ map (λ r. r.key) rows ++ p.key ∷ []) × (p.last ≡ length rows)

  -- the last row is r, after others of these keys
  module _ (rs : List Row) (r : Row) where
    abbrev i : ℕ
    i = length rs

    abbrev rows : List Row
    rows = rs ++ r ∷ []

    abbrev p : Path
    p = record { keys = map (λ r. r.key) rs ++ r.key ∷ []; last = i; key = r.key; cost = r.cost }

    path_is : path_to i rows ≡ p
    path_is = rw (get_or-append_seam, map-append) refl

    on : (t : Try) (l : Left) → On (extended p t) (rs ++ (record { key = r.key; cost = r.cost; left = l }) ∷ [])
    on t l = ((rw map-append refl), (rw length-append refl))

    road_next : (x : Option Try) (ranks : List ℕ) → Follows stands On (record { at = p; rest = Ok (more_of x (ranked r.key ranks)) } ∷ stands rs) (from_road x ranks i p rows)
    unfolding frame rest_of
    road_next None ranks = (rs, (rw take-append_seam refl), refl)
    road_next (Some t) ranks = let r' : Row = record { key = r.key; cost = r.cost; left = listed ranks } in (rs ++ r' ∷ [], (rw set-append_seam refl), stands_more rs r', on t (listed ranks))

    ranks_next : (ranks : List ℕ) → Follows stands On (record { at = p; rest = Ok (ranked r.key ranks) } ∷ stands rs) (from_ranks K M guess ranks i p rows)
    unfolding ranked
    ranks_next [] = road_next None []
    ranks_next (rank ∷ ranks) = road_next _ ranks

    all_next : (x : Result (List Try) SeekRefusal) → AllGathered K M guess p (M.count p.key) x → Follows stands On (record { at = p; rest = x } ∷ stands rs) (from_all x i p rows)
    all_next (Ok []) g = road_next None []
    all_next (Ok (t ∷ ts)) g = rw (ranked_is p ts (λ u i. g.only u (inr i))) at (road_next (Some t) (map (λ t. t.rank) ts))
    all_next (Err f) g = refl

    picks : (o : Option Try) (x : Result (List Try) SeekRefusal) → all_tries K M guess p ≡ x → AllGathered K M guess p (M.count p.key) x → Follows stands On (record { at = p; rest = due_of o x } ∷ stands rs) (picked (heads x o) i p rows)
    unfolding frame rest_of due_of
    picks o (Err f) e g = refl
    picks o (Ok ts) e g = go (filter (due o) ts) refl
      where
        go : (us : List Try) → filter (due o) ts ≡ us → Follows stands On (record { at = p; rest = Ok us } ∷ stands rs) (picked (Ok (head us)) i p rows)
        go [] q = (rs, (rw take-append_seam refl), refl)
        go (t ∷ us) q =
            let n = tried_next o t ts us g.sorted q in
            let l = tried_is p t (g.only t ((in_filter (due o) t ts).0 (rw q (inl refl))).0) in
            let r' : Row = record { key = r.key; cost = r.cost; left = last t.rank } in
            (rs ++ r' ∷ [], (rw set-append_seam refl), (rw (stands_more rs r', l, e, n) refl), on t (last t.rank))

    scanned_next : (o : Option Try) → Follows stands On (record { at = p; rest = due_of o (all_tries K M guess p) } ∷ stands rs) (scanned K M guess o i p rows)
    scanned_next o = let z = picks o (all_tries K M guess p) refl (gathered K M guess p) in rw (scan_is K M guess p o) z

    left_next : (b : Bool) (l : Left) → Follows stands On (record { at = p; rest = rest_of l p } ∷ stands rs) (from_left K M guess b l i p rows)
    unfolding rest_of
    left_next b (listed ranks) = ranks_next ranks
    left_next b (last rank) = scanned_next _
    left_next false untried = rw due_none at (scanned_next None)
    left_next true untried = all_next (all_tries K M guess p) (gathered K M guess p)

    last_next : (room : List Row → Bool) → Follows stands On (stands rows) (next_row K M guess room (suc i) rows)
    unfolding frame
    last_next room = rw (path_is, get_or-append_seam, stands_more) (left_next (room rows) r.left)

  next : (room : List Row → Bool) (rows : List Row) (n : ℕ) → length rows ≡ n → Follows stands On (stands rows) (next_row K M guess room n rows)
  unfolding stands stack
  next room [] zero e = refl
  next room (r ∷ rows) zero e = absurd (omega arith)
  next room rows (suc i) e =
      let l : i + 1 ≡ length rows = omega arith in
      go rows (take i rows) (get_or rows i no_row) (sym (take-length rows) ∙ (rw l at (take_more rows i no_row (omega arith)))) (sym (length-take-le i rows (omega arith)))
    where
      go : (l rs : List Row) (r : Row) → l ≡ rs ++ r ∷ [] → i ≡ length rs → Follows stands On (stands l) (next_row K M guess room (suc i) l)
      go l rs r q e = rw (q, e) (last_next rs r room)

  pub rows_keep : (room : List Row → Bool) → Keeps K M guess (in_rows K M guess room) stands
  unfolding stands stack frame rest_of
  rows_keep room = record {
    On = On;
    empty = refl;
    first = λ k. (refl, refl);
    next = λ rows. next room rows (length rows) refl;
    push = λ p rows h. rw (stands_more rows (record { key = p.key; cost = p.cost; left = untried }), ← h.0, ← h.1) refl;
  }

-- the loop over rows: what is left to do falls with each turn, and it comes to what idastar comes to
module _ (K : Kind) (M : Meaning) (guess : ℕ → ℕ) (cap : Capacity) (start : ℕ) (bounded : IsBounded K) (room : List Row → Bool) where
  pub rows_left : State (List Row) → ℕ
  rows_left = loop_left K M guess cap start (in_rows K M guess room) (stands K M guess) (rows_keep K M guess room) bounded

  pub rows_fall : (s t : State (List Row)) → more t ≡ turn (in_rows K M guess room) K M guess cap start s → rows_left t < rows_left s
  unfolding rows_left
  rows_fall = loop_falls K M guess cap start (in_rows K M guess room) (stands K M guess) (rows_keep K M guess room) bounded

  pub rows_deepen : {o : Outcome} → Ends (turn (in_rows K M guess room) K M guess cap start) (idle (in_rows K M guess room) K M guess cap start) o → Ends (deepen K M guess cap start) (guess start) o
  rows_deepen = loop_deepens K M guess cap start (in_rows K M guess room) (stands K M guess) (rows_keep K M guess room) bounded
