-- Rows of a register: their hash chains, and what they know as a list.
use Rattle.std.specs.Prelude.{◌≡◌, ℕ, ◌%◌, ◌<◌, ◌≤◌, List, map, length, take, Option, MatchOption, ◌≢◌, ◌==◌, slice_index_or, slice_set, position}
use Rattle.store.specs.declared.rows.Row.{Row}

-- the bucket of the node in row k
abbrev pub bucket : {N V : Type 0} → (N → ℕ) → List (Row N V) → Row N V → ℕ → ℕ
bucket m xs d k = m (slice_index_or xs k d).node % length xs

-- the key of the node in row k
abbrev pub key_at : {N V : Type 0} → (N → ℕ) → List (Row N V) → Row N V → ℕ → ℕ
key_at key xs d k = key (slice_index_or xs k d).node

-- none of the first n rows has key q
abbrev pub IsFresh : {N V : Type 0} → (N → ℕ) → List (Row N V) → ℕ → ℕ → Type 0
IsFresh {N} {V} key xs n q = (k : ℕ) (d : Row N V) → k < n → key_at key xs d k ≢ q

-- the answer is the row of key q among the first n, or nothing where none has it
abbrev pub IsRowOf : {N V : Type 0} → (N → ℕ) → List (Row N V) → ℕ → ℕ → Option ℕ → Type 0
IsRowOf {N} {V} key xs n q answer =
    MatchOption answer (IsFresh key xs n q) (λ p. (p < n) × ((d : Row N V) → key_at key xs d p ≡ q))

-- for each row of the first n: its bucket's head is the latest row of that bucket, and its `next` is the latest before it
pub record IsLinked {N V : Type 0} (m : N → ℕ) (xs : List (Row N V)) (n : ℕ) : Type 0 where
  pub heads : (r : ℕ) (d : Row N V) → r < n → ((slice_index_or xs (bucket m xs d r) d).head < n) × (bucket m xs d (slice_index_or xs (bucket m xs d r) d).head ≡ bucket m xs d r) × (r ≤ (slice_index_or xs (bucket m xs d r) d).head)
  pub nexts : (r j : ℕ) (d : Row N V) → r < n → j < r → bucket m xs d j ≡ bucket m xs d r → ((slice_index_or xs r d).next < r) × (bucket m xs d (slice_index_or xs r d).next ≡ bucket m xs d r) × (j ≤ (slice_index_or xs r d).next)

-- each row of the node's key lies no later than row r, which is before row e and of the node's bucket
abbrev pub IsOnward : {N V : Type 0} → (key m : N → ℕ) → List (Row N V) → ℕ → N → ℕ → ℕ → Type 0
IsOnward {N} {V} key m xs n node r e =
    (k : ℕ) (d : Row N V)
    → k < n
    → key_at key xs d k ≡ key node
    → (r < e) × (bucket m xs d r ≡ m node % length xs) × (k ≤ r)

-- no two rows have one key
abbrev pub IsSingle : {N V : Type 0} → (N → ℕ) → List (Row N V) → ℕ → Type 0
IsSingle {N} {V} key xs n =
    (j k : ℕ) (d : Row N V) → j < n → k < n → key (slice_index_or xs j d).node ≡ key (slice_index_or xs k d).node → j ≡ k

abbrev pub known : {N V : Type 0} → Row N V → N × V
known x = (x.node, x.value)

-- a row with another value
abbrev pub valued : {N V : Type 0} → Row N V → V → Row N V
valued x v = record { node = x.node; value = v; next = x.next; head = x.head }

-- what the first n rows know, in the order of finding
unfoldable pub found : {N V : Type 0} → List (Row N V) → ℕ → List (N × V)
found xs n = map known (take n xs)

-- the number of a key
abbrev pub number_of : {N V : Type 0} → (N → ℕ) → ℕ → List (N × V) → Option ℕ
number_of key k l = position (λ x. key x.0 == k) l

-- what holds of the entry at place k
abbrev pub At : {X : Type 0} → List X → ℕ → (X → Type 0) → Type 0
At {X} l k P = (d : X) → P (slice_index_or l k d)

-- the value at place k is now v
abbrev pub Valued : {N V : Type 0} → List (N × V) → List (N × V) → ℕ → V → Type 0
Valued {N} {V} l l' k v = (d : N × V) → l' ≡ slice_set l k ((slice_index_or l k d).0, v)
