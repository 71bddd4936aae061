-- What a register holds, and what each of its calls keeps.
use Rattle.std.specs.Prelude.{ℕ, ◌≤◌, List, [], ◌∷◌, ◌++◌, length, Bool, true, false, if◌then◌else◌, Option, Some, None, nat_lt}
use Rattle.store.specs.declared.rows.Row.{Row}
use Rattle.store.specs.Rows.{IsLinked, IsSingle}

-- the rows that were lent, as they stand; the nodes and their values in the order of finding; and how many rows there are in all
pub record Listing (N V : Type 0) : Type 0 where
  pub rows : List (Row N V)
  pub listed : List (N × V)
  pub room : ℕ

-- what each call keeps: at most 65,536 rows are lent, those in use are among them, their chains find every key, and no key stands
-- twice
pub record IsRegister {N V : Type 0} (key marks : N → ℕ) (rows : List (Row N V)) (len : ℕ) : Type 0 where
  pub fits : len ≤ length rows
  pub few : length rows ≤ 65536
  pub linked : IsLinked marks rows len
  pub single : IsSingle key rows len

-- all rows are in use
abbrev pub is_full : {N V : Type 0} → Listing N V → Bool
is_full l = if nat_lt (length l.listed) l.room then false else true

-- the row that the next node gets, where one is free
abbrev pub next_row : {N V : Type 0} → Listing N V → Option ℕ
next_row l = if nat_lt (length l.listed) l.room then Some (length l.listed) else None

-- what is listed once a node was given that row
abbrev pub listed_with : {N V : Type 0} → Listing N V → N → V → List (N × V)
listed_with l node value =
    if nat_lt (length l.listed) l.room then l.listed ++ (node, value) ∷ [] else l.listed
