-- Chains of links by their numbers, and what an edit of them leaves.
use Rattle.std.specs.Prelude.{◌≡◌, ℕ, zero, suc, ◌+◌, ◌<◌, ◌≤◌, cond, List, [], ◌∷◌, ◌++◌, map, take, length, reverse, ◌==◌, nat_lt, slice_index_or, slice_set}
use Rattle.std.specs.List.{sum_by}
use Rattle.links.specs.declared.lists.Link.{Link}
use Rattle.links.specs.declared.lists.Head.{Head}
use Rattle.links.specs.Listings.{Listing}

abbrev pub no_link : Link
no_link = record { parent = 0; next = 65535 }

abbrev pub no_head : Head
no_head = record { first = 65535; last = 65535; chosen = 65535 }

abbrev pub parent : List Link → ℕ → ℕ
parent ls l = (slice_index_or ls l no_link).parent

abbrev pub next : List Link → ℕ → ℕ
next ls l = (slice_index_or ls l no_link).next

abbrev pub head_at : List Head → ℕ → Head
head_at hs r = slice_index_or hs r no_head

-- at most n links from l on
unfoldable pub walk : List Link → ℕ → ℕ → List ℕ
walk ls zero l = []
walk ls (suc n) l = cond (nat_lt l (length ls)) (l ∷ walk ls n (next ls l)) []

-- the links from l on, and the parents in them
abbrev pub linked : List Link → ℕ → List ℕ
linked ls l = walk ls (length ls) l

abbrev pub listed : List Link → ℕ → List ℕ
listed ls l = map (parent ls) (linked ls l)

unfoldable pub lists : List Link → List Head → ℕ → List (List ℕ)
lists ls hs n = map (λ h. reverse (listed ls h.first)) (take n hs)

unfoldable pub left : List Link → List Head → ℕ → List (List ℕ)
left ls hs n = map (λ h. listed ls h.chosen) (take n hs)

-- what the first n rows hold
abbrev pub listing : List Link → List Head → ℕ → Listing
listing ls hs n = record { lists = lists ls hs n; left = left ls hs n; room = length ls; rows = length hs }

-- the links from l on are these
abbrev pub Chain : List Link → ℕ → List ℕ → Type 0
Chain ls l [] = length ls ≤ l
Chain ls l (x ∷ xs) = (l ≡ x) × (x < length ls) × Chain ls (next ls x) xs

abbrev pub Last : ℕ → List ℕ → Type 0
Last l [] = Unit {0}
Last l (x ∷ []) = l ≡ x
Last l (x ∷ y ∷ ys) = Last l (y ∷ ys)

abbrev pub occurs : ℕ → List ℕ → ℕ
occurs x [] = 0
occurs x (y ∷ ys) = cond (x == y) 1 0 + occurs x ys

-- the links of a row's list, and those of them from the chosen one on
pub record Row (ls : List Link) (h : Head) (own rest : List ℕ) : Type 0 where
  pub chain : Chain ls h.first own
  pub last : Last h.last own
  pub choice : Chain ls h.chosen rest
  pub passed : List ℕ
  pub part : own ≡ passed ++ rest

-- of the first `used` links each is free or in one list, once
pub record Laid (spare : List ℕ) (own : List (List ℕ)) (used : ℕ) : Type 0 where
  pub once : (x : ℕ) → occurs x spare + sum_by (occurs x) own ≤ 1
  pub below : (x : ℕ) → used ≤ x → occurs x spare + sum_by (occurs x) own ≡ 0
  pub count : length spare + sum_by length own ≡ used

-- what each call keeps
pub record Kept (hs : List Head) (ls : List Link) (n free used : ℕ) : Type 0 where
  pub fits : n ≤ length hs
  pub few : length ls ≤ 65535
  pub within : used ≤ length ls
  pub spare : List ℕ
  pub own : List (List ℕ)
  pub rest : List (List ℕ)
  pub many : length own ≡ n
  pub as_many : length rest ≡ n
  pub free_are : Chain ls free spare
  pub rows : (r : ℕ) → r < n → Row ls (head_at hs r) (slice_index_or own r []) (slice_index_or rest r [])
  pub laid : Laid spare own used

-- a head whose list, of links below n, begins at link l
abbrev pub led_by : (l n : ℕ) → Head → Head
led_by l n h = record { first = l; last = cond (nat_lt h.first n) h.last l; chosen = h.chosen }

-- what the write of link l, with parent p, as the first of row r leaves, where n was next after it
pub record Placed (hs hs' : List Head) (ls ls' : List Link) (r l p n : ℕ) : Type 0 where
  pub linked : ls' ≡ slice_set ls l (record { parent = p; next = (head_at hs r).first })
  pub headed : hs' ≡ slice_set hs r (led_by l (length ls) (head_at hs r))
  pub was : n ≡ next ls l

-- the last link of a row is a link
abbrev pub Spliceable : List Head → List Link → ℕ → Type 0
Spliceable hs ls r = (head_at hs r).first < length ls → (head_at hs r).last < length ls

-- free comes after link l
abbrev pub leading_to : (free l : ℕ) → List Link → List Link
leading_to free l ls = slice_set ls l (record { parent = parent ls l; next = free })

-- what emptying row r leaves, where f is then the first free link
pub record Spliced (hs hs' : List Head) (ls ls' : List Link) (r free f : ℕ) : Type 0 where
  pub headed : hs' ≡ slice_set hs r no_head
  pub linked : ls' ≡ cond (nat_lt (head_at hs r).first (length ls)) (leading_to free (head_at hs r).last ls) ls
  pub freed : f ≡ cond (nat_lt (head_at hs r).first (length ls)) (head_at hs r).first free
