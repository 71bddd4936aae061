-- A turn at the end of the path, and the road that is tried there.
use Rattle.std.proofs.Common.{◌≡◌, ℕ, ◌+◌, ◌<◌, Bool, true, false, cond, ltb, List, length, set, Some, None, Ok, Option, Result, refl, sym, ap, ◌∙◌, arith}
use Rattle.store.specs.Registers.{Listing}
use Rattle.kinds.specs.Kind.{Kind}
use Rattle.graph.specs.Meaning.{Meaning}
use Rattle.search.specs.declared.refusal.SeekRefusal.{SeekRefusal}
use Rattle.search.specs.Members.{has}
use Rattle.search.specs.Deepening.{Path, Try}
use Rattle.search.specs.Ends.{Turned}
use Rattle.search.specs.Loop.{State, on, turn}
use Rattle.search.specs.Scan.{last, Row, scan, picked, from_left, next_row}
use Rattle.search.proofs.Order.{scan_tries}
use Rattle.deepening.specs.Trails.{Trail}
use Rattle.deepening.specs.Steps.{no_room, scanning, tried_last, arriving, trying, turning, rows_only}
use Rattle.deepening.specs.declared.tries.Tried.{Tried}
use Rattle.deepening.specs.declared.tries.Tried.TheVariants.{Nothing, UpTo}
use Rattle.deepening.specs.declared.pass.Pass.{Pass}
use Rattle.deepening.specs.declared.roads.Road.{Road}
use Rattle.deepening.specs.declared.path.End.{End}
use Rattle.deepening.specs.Views.{left_of, rows_of, nodes_of, path_of, path_on, state_of, try_of, next_of, on_way, IsEnd, IsPaired}
use Rattle.deepening.proofs.Nodes.{rows_keys, rows_length, rows_set}

module _ {N C : Type 0} (key : N → ℕ) (weight : C → ℕ) (K : Kind) (M : Meaning) (guess : ℕ → ℕ) (r : Listing N C) (t : Trail) (e : End N C) (a : IsEnd key weight e r t) where
  abbrev rows : List Row
  rows = rows_of key weight r.listed t.lefts

  abbrev p : Path
  p = path_of key weight r.listed e

  -- the scan for the next road
  abbrev pub scanned : Result (Option Try) SeekRefusal
  scanned = scan K M guess p (tried_last K M guess (key e.node) (left_of e.tried)) (M.count (key e.node)) 0 None

  next_is : next_row K M guess no_room (length rows) rows ≡ picked scanned e.row p rows
  next_is = rw (rows_length key weight r.listed t.lefts, a.last, a.row, rows_keys key weight r.listed t.lefts) (go e.tried)
    where
      go : (u : Tried) → from_left K M guess false (left_of u) e.row p rows ≡ picked (scan K M guess p (tried_last K M guess (key e.node) (left_of u)) (M.count (key e.node)) 0 None) e.row p rows
      go Nothing = refl
      go (UpTo rank) = refl

  -- a turn by what the scan answered
  pub turn_is : (x : Result (Option (Road N C)) SeekRefusal) → next_of key weight x ≡ scanned → (room start : ℕ) (q : Pass C)
      → turning K M guess room start (state_of key weight r t q) ≡ on (scanning K M guess) K M guess (rows_only room) start (picked (next_of key weight x) e.row p rows) (state_of key weight r t q)
  unfolding turn
  turn_is x f room start q = rw (f, next_is) refl

  -- the road that the scan found leads off the path
  pub scan_off : (x : Result (Option (Road N C)) SeekRefusal) (d : Road N C) → next_of key weight x ≡ scanned → x ≡ Ok (Some d) → has (key d.node) (nodes_of key weight r.listed) ≡ false
  scan_off x d f q = (scan_tries K M guess p (tried_last K M guess (key e.node) (left_of e.tried)) (try_of key weight d) (sym f ∙ ap (next_of key weight) q)).0.off

  -- a road that is tried, where its sum fits and a row is left
  pub tried_is : (d : Road N C) (c : C) (q : Pass C) (u : Trail) (s : Turned (State (List Row))) → IsPaired r t
      → Some (weight c) ≡ cond (K.fits (weight e.cost) (weight d.weight)) (Some (weight e.cost + weight d.weight)) None → length r.listed < r.room → u.lefts ≡ set t.lefts e.row (last d.rank)
      → s ≡ arriving K M guess (path_on key weight r.listed d.node c) (state_of key weight r u q)
      → s ≡ trying K M guess r.room p (try_of key weight d) (on_way (state_of key weight r t q) e.row (key e.node) (weight e.cost) d.rank)
  tried_is d c q u s y f l g h =
      let z = fits_so (K.fits (weight e.cost) (weight d.weight)) f in
      let w = rows_set key weight r.listed t.lefts e.row (last d.rank) (left_of e.tried) (key e.node) (weight e.cost) y.as_many (omega (arith, a.last)) a.row in
      let n : length r.listed ≡ e.row + 1 = omega (arith, a.last) in
      let b : ltb (e.row + 1) r.room ≡ true = grind arith in
      rw (z.0, b) (rw (g, w, z.1, n) at h)
    where
      fits_so : (b : Bool) → Some (weight c) ≡ cond b (Some (weight e.cost + weight d.weight)) None → (b ≡ true) × (weight c ≡ weight e.cost + weight d.weight)
      fits_so true q = (refl, cc)
      fits_so false q = cc
