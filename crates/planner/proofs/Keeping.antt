-- Whether links are left for the parents of rows, by their lists and by the definition's rows.
use Rattle.std.proofs.Common.{◌≡◌, ℕ, ◌<◌, List, [], ◌∷◌, ◌++◌, length, get_or, set, refl, arith, length-append, length-set}
use Rattle.std.specs.Prelude.{nat_lt, nat_le}
use Rattle.links.specs.Listings.{held}
use Rattle.links.specs.Parentages.{has_room}
use Rattle.links.specs.declared.parents.Keeps.{Keeps as Kept}
use Rattle.links.specs.declared.parents.Keeps.TheVariants.{One, All}
use Rattle.search.specs.Rows.{no_row, links_in}
use Rattle.search.specs.Roads.{with_parent}
use Rattle.planner.specs.Standing.{keeps_of, row_of, rows_of, has_links}
use Rattle.planner.proofs.Maps.{rows_push, rows_set, rows_tied, row_at, links_rows, held_one, held_more, set_last}

module _ {N C : Type 0} (key : N → ℕ) (weight : C → ℕ) (l : List (N × C)) (ps : List (List ℕ)) (even : length ps ≡ length l) where
  pub room_push : (k : Kept) (room n : ℕ) (x : N × C) (p : ℕ) → n ≡ length ps → has_room k room (set (ps ++ [] ∷ []) n []) ≡ has_links (keeps_of k) room (rows_of key weight l ps ++ row_of key weight x (p ∷ []) ∷ [])
  room_push One room n x p z = refl
  room_push All room n x p z =
      let a : links_in (rows_of key weight l ps ++ row_of key weight x (p ∷ []) ∷ []) ≡ held (ps ++ (p ∷ []) ∷ []) = rw (← rows_push key weight l ps x (p ∷ []) even) (links_rows key weight (l ++ x ∷ []) (ps ++ (p ∷ []) ∷ []) (grind (arith, length-append))) in
      let b = held_one (ps ++ [] ∷ []) n p (grind (arith, length-append)) in
      let c = set_last ps [] (p ∷ []) n z in
      grind arith

  pub room_set : (k : Kept) (room j : ℕ) (x : N × C) (p : ℕ) → j < length l → has_room k room (set ps j []) ≡ has_links (keeps_of k) room (set (rows_of key weight l ps) j (row_of key weight x (p ∷ [])))
  room_set One room j x p h = refl
  room_set All room j x p h =
      let a : links_in (set (rows_of key weight l ps) j (row_of key weight x (p ∷ []))) ≡ held (set ps j (p ∷ [])) = rw (← rows_set key weight l ps j x (p ∷ []) even) (links_rows key weight (set l j x) (set ps j (p ∷ [])) (grind (arith, length-set))) in
      let b = held_one ps j p (omega arith) in
      grind arith

  -- the rows once row j has one parent more
  pub tied_is : (j p : ℕ) (d : N × C) → j < length l → set (rows_of key weight l ps) j (with_parent (get_or (rows_of key weight l ps) j no_row) p) ≡ rows_of key weight l (set ps j (get_or ps j [] ++ p ∷ []))
  tied_is j p d h =
      let a = rows_tied key weight l ps j (get_or ps j [] ++ p ∷ []) d even h in
      let b = row_at key weight l ps j d even h in
      grind arith

  pub room_tied : (room j p : ℕ) (d : N × C) → j < length l → nat_lt (held ps) room ≡ nat_le (links_in (set (rows_of key weight l ps) j (with_parent (get_or (rows_of key weight l ps) j no_row) p))) room
  room_tied room j p d h =
      let a = tied_is j p d h in
      let b = links_rows key weight l (set ps j (get_or ps j [] ++ p ∷ [])) (grind (arith, length-set)) in
      let c = held_more ps j p (omega arith) in
      grind arith
