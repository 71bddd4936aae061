-- What lists of parents hold, and what a call makes of them.
use Rattle.std.specs.Prelude.{ℕ, Bool, List, [], ◌∷◌, ◌++◌, length, drop, reverse, if◌then◌else◌, ◌==◌, slice_index_or, slice_set}
use Rattle.std.specs.List.{list_any, sum_by}

-- of each row: its parents in the order of adding, and the parents that are left to take, the chosen first and then those that
-- were added before it; how many links are lent, and how many rows there may be
pub record Listing : Type 0 where
  pub lists : List (List ℕ)
  pub left : List (List ℕ)
  pub room : ℕ
  pub rows : ℕ

-- how many links are in lists
abbrev pub held : List (List ℕ) → ℕ
held ls = sum_by length ls

-- the list of a row, or what is left of it
abbrev pub at : List (List ℕ) → ℕ → List ℕ
at ls r = slice_index_or ls r []

abbrev pub has : ℕ → List ℕ → Bool
has p ps = list_any (λ q. q == p) ps

-- the lists once that of row r is empty, or what is left
abbrev pub emptied : (r : ℕ) → List (List ℕ) → List (List ℕ)
emptied r ls = slice_set ls r []

-- the lists once parent p is behind those of row r, if a link was free for it
abbrev pub added : (free : Bool) → (r p : ℕ) → List (List ℕ) → List (List ℕ)
added free r p ls = if free then slice_set ls r (at ls r ++ p ∷ []) else ls

-- what is left once row r, whose list is ps, chooses the last of it
abbrev pub rewound : (r : ℕ) → (ps : List ℕ) → List (List ℕ) → List (List ℕ)
rewound r ps left = slice_set left r (reverse ps)

-- what is left once row r chooses the parent before the chosen one
abbrev pub passed : (r : ℕ) → List (List ℕ) → List (List ℕ)
passed r left = slice_set left r (drop 1 (at left r))
