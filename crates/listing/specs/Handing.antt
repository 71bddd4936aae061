-- The routes that are to come, by the parents of rows, what is left of them to take, and the sinks; and what a hand-out gives.
use Rattle.std.specs.Prelude.{◌≡◌, ℕ, ◌<◌, ◌≤◌, List, [], ◌∷◌, map, length, take, drop, reverse, Some, None, Ok, Err, Option, Result, slice_index_or}
use Rattle.store.specs.Registers as register
use Rattle.links.specs.Listings.{at}
use Rattle.links.specs.Parentages.{Parentage}
use Rattle.search.specs.declared.refusal.HandOutRefusal.{HandOutRefusal}
use Rattle.search.specs.Members.{In}
use Rattle.search.specs.Rows.{Row, latest_first, routes_to}
use Rattle.search.specs.Calls.{Given, gave, finished, denied, handed, kept}
use Rattle.listing.specs.Routes.{listing, pending, trail, turn}
use Rattle.listing.specs.Odometer.{Sound, anew, turned}
use Rattle.listing.specs.Sinks.{Joined}

-- the parents of a row, latest first
abbrev pub par : List (List ℕ) → ℕ → List ℕ
par lists r = reverse (at lists r)

-- a rank falls from each row to its parents, which are rows
pub record Falling (lists : List (List ℕ)) : Type 0 where
  pub rank : ℕ → ℕ
  pub falls : (r p : ℕ) → In p (at lists r) → rank p < rank r
  pub inside : (r p : ℕ) → In p (at lists r) → p < length lists

-- the routes to come, as rows
abbrev pub rows_to_come : (lists left : List (List ℕ)) → (sinks : List ℕ) → List (List ℕ)
rows_to_come lists left sinks = pending (par lists) (at left) (length lists) (reverse sinks)

abbrev pub key_at : (keys : List ℕ) → ℕ → ℕ
key_at keys r = slice_index_or keys r 0

-- the routes to come, as keys
abbrev pub to_come : (keys : List ℕ) → (lists left : List (List ℕ)) → (sinks : List ℕ) → List (List ℕ)
to_come keys lists left sinks = map (map (key_at keys)) (rows_to_come lists left sinks)

-- the keys of rows, and the parents of each, by the definition of the searches
abbrev pub keys_in : List Row → List ℕ
keys_in rows = map (λ r. r.key) rows

abbrev pub parents_in : List Row → List (List ℕ)
parents_in rows = map (λ r. r.parents) rows

-- by the choice that is left: the route to a sink, and the row on it that goes on next
abbrev pub route : (lists left : List (List ℕ)) → (sink : ℕ) → List ℕ
route lists left sink = trail (at left) (length lists) sink []

abbrev pub next_turn : (lists left : List (List ℕ)) → (sink : ℕ) → Option ℕ
next_turn lists left sink = turn (at left) (length lists) sink

-- what is left leads from a sink to a row without parents
abbrev pub SoundAt : (lists left : List (List ℕ)) → (sink : ℕ) → Type 0
SoundAt lists left sink = Sound (par lists) (at left) (length lists) sink

-- so it does from the first of these, and its route
abbrev pub SoundFrom : (lists left : List (List ℕ)) → List ℕ → Type 0
SoundFrom lists left [] = Unit {0}
SoundFrom lists left (s ∷ ss) = SoundAt lists left s

abbrev pub turn_from : (lists left : List (List ℕ)) → List ℕ → Option ℕ
turn_from lists left [] = None
turn_from lists left (s ∷ ss) = next_turn lists left s

abbrev pub route_from : (lists left : List (List ℕ)) → List ℕ → List ℕ
route_from lists left [] = []
route_from lists left (s ∷ ss) = route lists left s

abbrev pub next_route : (lists left : List (List ℕ)) → (sinks : List ℕ) → List ℕ
next_route lists left sinks = route_from lists left (reverse sinks)

-- with other choices; with those of the latest route to a sink; and with row r gone on
abbrev pub with_left : Parentage → List (List ℕ) → Parentage
with_left v left = record { lists = v.lists; left = left; room = v.room; rows = v.rows; keeps = v.keeps }

abbrev pub begun : Parentage → (sink : ℕ) → Parentage
begun v sink = with_left v (anew (par v.lists) (length v.lists) sink v.left)

abbrev pub gone_on : Parentage → (r : ℕ) → Parentage
gone_on v r = with_left v (turned (par v.lists) (length v.lists) r v.left)

-- all routes to the sinks are to come: as rows, and as keys, by the definition of the searches
abbrev pub AllCome : (lists left : List (List ℕ)) → (sinks : List ℕ) → Type 0
AllCome lists left sinks =
    rows_to_come lists left sinks ≡ listing (par lists) (length lists) (reverse sinks)

abbrev pub ComeByRows : (lists left : List (List ℕ)) → (sinks : List ℕ) → Type 0
ComeByRows lists left sinks =
    (rows : List Row) → parents_in rows ≡ lists
    → to_come (keys_in rows) lists left sinks ≡ latest_first (routes_to rows) sinks

-- the row that goes on next, on the route to the latest sink
abbrev pub latest_turn : Parentage → Joined → Option ℕ
latest_turn v s = turn_from v.lists v.left (reverse s.sinks)

-- the next route is one of those to come no more
abbrev pub GoesOn : Parentage → Joined → Parentage → Joined → Type 0
GoesOn v s w t =
    rows_to_come v.lists v.left s.sinks ≡ next_route v.lists v.left s.sinks ∷ rows_to_come w.lists w.left t.sinks

-- what the hand-outs keep
pub record Ready (lists left : List (List ℕ)) (sinks : List ℕ) : Type 0 where
  pub falling : Falling lists
  pub inside : (s : ℕ) → In s sinks → s < length lists
  pub sound : SoundFrom lists left (reverse sinks)

-- ---- a hand-out

-- the keys that it wrote, where it answered a length
abbrev pub given_of : {N : Type 0} → (N → ℕ) → Result (Option ℕ) HandOutRefusal → List N → Given
given_of key (Ok (Some n)) out = gave (map key (take n out))
given_of key (Ok None) out = finished
given_of key (Err e) out = denied e

-- the length that it answers is one of entries that are there, so that it is the number of keys written
abbrev pub Within : Result (Option ℕ) HandOutRefusal → (room : ℕ) → Type 0
Within (Ok (Some n)) room = n ≤ room
Within (Ok None) room = Unit {0}
Within (Err e) room = Unit {0}

-- the entries beyond the route stay, and all of them where no route was written
abbrev pub Untouched : {N : Type 0} → Result (Option ℕ) HandOutRefusal → List N → List N → Type 0
Untouched (Ok (Some n)) before after = drop n after ≡ drop n before
Untouched (Ok None) before after = after ≡ before
Untouched (Err e) before after = after ≡ before

module _ {N V : Type 0} (key : N → ℕ) (r : register.Listing N V) where
  abbrev pub keys_of : List ℕ
  keys_of = map (λ x. key x.0) r.listed

  -- the keys of these rows
  abbrev pub keyed : List ℕ → List ℕ
  keyed js = map (key_at keys_of) js

  -- the keys on the chosen route
  abbrev pub route_keys : Parentage → (sink : ℕ) → List ℕ
  route_keys p sink = keyed (route p.lists p.left sink)

  -- the routes to come, of the rows of a register
  abbrev pub coming : Parentage → Joined → List (List ℕ)
  coming p s = to_come keys_of p.lists p.left s.sinks

  -- it gives the first of the routes to come, if there is room for it
  abbrev pub Gives : Parentage → Joined → (out : List N) → Result (Option ℕ) HandOutRefusal → List N → Type 0
  Gives p s out result out' = given_of key result out' ≡ handed (coming p s) (length out)

  -- and the others are still to come then
  abbrev pub Leaves : Parentage → Joined → (out : List N) → Parentage → Joined → Type 0
  Leaves p s out p' s' = coming p' s' ≡ kept (coming p s) (length out)
