-- What the rows that were found stand for, and how a step leaves them.
use Rattle.std.specs.Prelude.{◌≡◌, ℕ, ◌<◌, ◌≤◌, Bool, true, List, [], ◌∷◌, length, if◌then◌else◌, nat_le, slice_index_or, slice_set}
use Rattle.std.specs.List.{AllByRecursion}
use Rattle.store.specs.Registers.{Listing}
use Rattle.links.specs.Parentages.{Parentage}
use Rattle.links.specs.declared.parents.Keeps.{Keeps as Kept}
use Rattle.links.specs.declared.parents.Keeps.TheVariants.{One, All}
use Rattle.search.specs.Capacity.{Capacity}
use Rattle.search.specs.Members.{has}
use Rattle.search.specs.Rows.{Row, no_row, links_in}
use Rattle.search.specs.Roads.{State, Keeps, one, all, with_parent}

-- the rows, what is left of each to hand out, how many rows and links there are, and which parents are kept
pub record Standing : Type 0 where
  pub rows : List Row
  pub left : List (List ℕ)
  pub room : ℕ
  pub links : ℕ
  pub keeps : Keeps

abbrev pub keeps_of : Kept → Keeps
keeps_of One = one
keeps_of All = all

-- a node with its cost and its parents
abbrev pub row_of : {N C : Type 0} → (N → ℕ) → (C → ℕ) → N × C → List ℕ → Row
row_of key weight x parents = record { key = key x.0; cost = weight x.1; parents = parents }

-- the nodes and their costs, each with its parents
abbrev pub rows_of : {N C : Type 0} → (N → ℕ) → (C → ℕ) → List (N × C) → List (List ℕ) → List Row
rows_of key weight [] lists = []
rows_of key weight (x ∷ xs) [] = row_of key weight x [] ∷ rows_of key weight xs []
rows_of key weight (x ∷ xs) (ps ∷ lists) = row_of key weight x ps ∷ rows_of key weight xs lists

-- what a register and the parents of its rows stand for
abbrev pub standing : {N C : Type 0} → (N → ℕ) → (C → ℕ) → Listing N C → Parentage → Standing
standing key weight r p =
    record { rows = rows_of key weight r.listed p.lists; left = p.left; room = r.room; links = p.room; keeps = keeps_of p.keeps }

-- each of these is one of the first n
abbrev pub Below : ℕ → List ℕ → Type 0
Below n js = AllByRecursion (λ j. j < n) js

-- there are 1 to 32,768 rows; those in use are among them; and each has parents, which are rows in use
pub record IsPaired {N C : Type 0} (r : Listing N C) (p : Parentage) : Type 0 where
  pub some : 0 < r.room
  pub few : r.room ≤ 32768
  pub fits : length r.listed ≤ r.room
  pub served : p.rows ≡ r.room
  pub even : length p.lists ≡ length r.listed
  pub parents : AllByRecursion (Below (length r.listed)) p.lists

-- a step from one moment to another loses no row
pub record After (f f' : Standing) : Type 0 where
  pub room : f'.room ≡ f.room
  pub links : f'.links ≡ f.links
  pub keeps : f'.keeps ≡ f.keeps
  pub grows : length f.rows ≤ length f'.rows

-- the memory of a search over these rows
abbrev pub capacity_of : Standing → Capacity
capacity_of f = record { rows = f.room; links = f.links }

-- the state of a search: these rows, and what waits
abbrev pub state_of : {W : Type 0} → Standing → W → State W
state_of f w = record { rows = f.rows; waits = w }

-- there are links for the parents of these rows, where those are kept in links
abbrev pub has_links : Keeps → (links : ℕ) → List Row → Bool
has_links one links rows = true
has_links all links rows = nat_le (links_in rows) links

-- what waits serves as many rows as there are, and those that do are in use
pub record IsServed {W : Type 0} (rows : W → ℕ) (InUse : ℕ → W → Type 0) (f : Standing) (w : W) : Type 0 where
  pub even : rows w ≡ f.room
  pub waiting : InUse (length f.rows) w

-- row j with row i as a parent too, if all are kept and i is none of them yet
abbrev pub tied_rows : Keeps → (i j : ℕ) → List Row → List Row
tied_rows one i j rows = rows
tied_rows all i j rows = let r = slice_index_or rows j no_row in if has i r.parents then rows else slice_set rows j (with_parent r i)

-- whether there are links for that
abbrev pub is_tied : Keeps → (links i j : ℕ) → List Row → Bool
is_tied one links i j rows = true
is_tied all links i j rows = let r = slice_index_or rows j no_row in if has i r.parents then true else nat_le (links_in (slice_set rows j (with_parent r i))) links

-- as many rows and links as before
pub record HasMemoryOf (f f' : Standing) : Type 0 where
  pub room : f'.room ≡ f.room
  pub links : f'.links ≡ f.links
