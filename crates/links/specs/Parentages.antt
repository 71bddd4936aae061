-- What is known of the parents of rows, where one parent of each row is kept, or all are.
use Rattle.std.specs.Prelude.{◌≡◌, ℕ, ◌≤◌, Bool, true, List, [], ◌∷◌, length, map, take, Option, Some, None, cond, if◌then◌else◌, ◌==◌, nat_lt, slice_set}
use Rattle.links.specs.declared.parents.Keeps.{Keeps}
use Rattle.links.specs.declared.parents.Keeps.TheVariants.{One, All}
use Rattle.links.specs.Listings.{Listing, held, emptied}

-- as in `Listing`, of each row its parents and those that are left to take, and how many links and rows there are; and how many
-- parents of a row are kept
pub record Parentage : Type 0 where
  pub lists : List (List ℕ)
  pub left : List (List ℕ)
  pub room : ℕ
  pub rows : ℕ
  pub keeps : Keeps

-- no row has a list
abbrev pub unlisted : Keeps → (room rows : ℕ) → Parentage
unlisted keeps room rows = record { lists = []; left = []; room = room; rows = rows; keeps = keeps }

-- whether one parent more can be kept beside these: one of each row needs no link
abbrev pub has_room : Keeps → (room : ℕ) → List (List ℕ) → Bool
has_room One room lists = true
has_room All room lists = nat_lt (held lists) room

-- so it is once the list of row r is empty
abbrev pub can_replace : Keeps → (room : ℕ) → (r : ℕ) → List (List ℕ) → Bool
can_replace keeps room r ls = has_room keeps room (emptied r ls)

-- the lists once that of row r is parent p alone, if a link was free for it, or else is empty
abbrev pub replaced : (free : Bool) → (r p : ℕ) → List (List ℕ) → List (List ℕ)
replaced free r p ls = slice_set ls r (if free then p ∷ [] else [])

-- what is left of a row whose list is parent p alone: by one of each row it is chosen, and by all none is yet
abbrev pub left_anew : Keeps → (p : ℕ) → List ℕ
left_anew One p = p ∷ []
left_anew All p = []

abbrev pub left_alone : Keeps → (r p : ℕ) → List (List ℕ) → List (List ℕ)
left_alone keeps r p left = slice_set left r (left_anew keeps p)

-- the parent that stands in place of a list, where 65,535 stands for none
abbrev pub parent_in : ℕ → Option ℕ
parent_in p = cond (p == 65535) None (Some p)

abbrev pub single : ℕ → List ℕ
single p = cond (p == 65535) [] (p ∷ [])

-- the lists of the first n rows, where one parent of each is kept
unfoldable pub singles : List ℕ → (n : ℕ) → List (List ℕ)
singles only n = map single (take n only)

-- what is seen: the single parents of the first n rows, each of them chosen; or the lists
abbrev pub seen : Keeps → List ℕ → (n : ℕ) → Listing → Parentage
seen One only n l =
    record { lists = singles only n; left = singles only n; room = l.room; rows = l.rows; keeps = One }
seen All only n l =
    record { lists = l.lists; left = l.left; room = l.room; rows = l.rows; keeps = All }

-- there are as many rows either way, and their numbers are below that which stands for none
pub record Sized (only : List ℕ) (n : ℕ) (l : Listing) : Type 0 where
  pub as_many : length only ≡ l.rows
  pub few : l.rows ≤ 65535
  pub fits : n ≤ l.rows
