-- The single parents of rows, as lists.
use Rattle.std.proofs.Common.{◌≡◌, ℕ, ◌+◌, ◌<◌, ◌≤◌, Bool, true, false, cond, eqb, ltb, List, [], ◌∷◌, ◌++◌, map, length, get_or, set, take, reverse, Some, None, sym, refl, ap, ◌∙◌, arith}
use Rattle.std.specs.Prelude.{slice_get}
use Rattle.std.specs.Option.{option_eq}
use Rattle.std.proofs.Math.Seq.{take-set-lt}
use Rattle.std.proofs.lemmas.List.{get_or-set_same, set-set, map-set, map-append, set-get_or, take_more_set}
use Rattle.std.proofs.lemmas.Bool.{le-ltb}
use Rattle.std.proofs.lemmas.Bool.Decides.{nat_tests}
use Rattle.std.proofs.lemmas.Grind.{common_steps}
use Rattle.links.specs.declared.parents.Keeps.{Keeps}
use Rattle.links.specs.declared.parents.Keeps.TheVariants.{One, All}
use Rattle.links.specs.Listings.{Listing, at, has, rewound, added}
use Rattle.links.specs.Parentages.{Parentage, unlisted, parent_in, single, singles, seen, replaced, Sized}
use Rattle.links.proofs.Keeps.{length_front, read_front}

pub room_is : (k : Keeps) (only : List ℕ) (n : ℕ) (l : Listing) → (seen k only n l).room ≡ l.room
room_is One only n l = refl
room_is All only n l = refl

pub rows_are : (k : Keeps) (only : List ℕ) (n : ℕ) (l : Listing) → (seen k only n l).rows ≡ l.rows
rows_are One only n l = refl
rows_are All only n l = refl

pub none_seen : (k : Keeps) (only : List ℕ) (l : Listing) → l.lists ≡ [] → l.left ≡ [] → seen k only 0 l ≡ unlisted k l.room l.rows
unfolding singles
none_seen One only l a b = refl
none_seen All only l a b = rw (a, b) refl

pub single_short : (p : ℕ) → length (single p) ≤ 1
single_short p = grind (arith, common_steps)

pub single_reversed : (p : ℕ) → reverse (single p) ≡ single p
single_reversed p = grind (arith, common_steps)

pub single_got : (p : ℕ) → parent_in p ≡ slice_get (single p) 0
single_got p = grind (arith, common_steps)

had : (b : Bool) (q p : ℕ) → option_eq eqb (cond b None (Some q)) (Some p) ≡ has p (cond b [] (q ∷ []))
had true q p = refl
had false q p = grind (arith, common_steps)

-- whether the single parent is p
pub single_has : (q p : ℕ) → option_eq eqb (parent_in q) (Some p) ≡ has p (single q)
single_has q p = had (eqb q 65535) q p

module _ (only : List ℕ) (n : ℕ) (fits : n ≤ length only) where
  pub length_singles : length (singles only n) ≡ n
  unfolding singles
  length_singles = length_front single only n fits

  pub at_single : (r : ℕ) → r < n → at (singles only n) r ≡ single (get_or only r 65535)
  unfolding singles
  at_single r l = read_front single only n r 65535 [] fits l

  pub set_single : (r p : ℕ) → r < n → singles (set only r p) n ≡ set (singles only n) r (single p)
  unfolding singles
  set_single r p l = ap (map single) (take-set-lt n only r p l) ∙ map-set single (take n only) r p

  pub one_more : n < length only → singles (set only n 65535) (n + 1) ≡ singles only n ++ [] ∷ []
  unfolding singles
  one_more l = ap (map single) (take_more_set only n 65535 l) ∙ map-append single (take n only) (65535 ∷ [])

  pub none_older : (r : ℕ) → r < n → false ≡ ltb 1 (length (at (singles only n) r))
  none_older r l = let s = single_short (get_or only r 65535) in rw (at_single r l) (sym (le-ltb 1 (length (single (get_or only r 65535))) s))

  pub got : (r : ℕ) → r < n → parent_in (get_or only r 65535) ≡ slice_get (at (singles only n) r) 0
  got r l = rw (at_single r l) (single_got (get_or only r 65535))

  pub has_it : (r p : ℕ) → r < n → option_eq eqb (parent_in (get_or only r 65535)) (Some p) ≡ has p (at (singles only n) r)
  has_it r p l = rw (at_single r l) (single_has (get_or only r 65535) p)

  pub not_rewound : (r : ℕ) → r < n → singles only n ≡ rewound r (at (singles only n) r) (singles only n)
  not_rewound r l =
      sym (ap (set (singles only n) r) (ap reverse (at_single r l) ∙ single_reversed (get_or only r 65535) ∙ sym (at_single r l)) ∙ set-get_or (singles only n) r [])

pub single_is : (p : ℕ) → p < 65535 → single p ≡ p ∷ []
single_is p l = grind (arith, common_steps, nat_tests)

-- more than one parent is left only where all are kept
pub all_kept : (k : Keeps) (only : List ℕ) (n : ℕ) (l : Listing) (v : Parentage) (r : ℕ) → seen k only n l ≡ v → Sized only n l → r < length v.lists → 1 < length (at v.left r) → k ≡ All
all_kept All only n l v r e s lr o = refl
all_kept One only n l v r e s lr o =
    let f : n ≤ length only = omega (arith, s.fits, s.as_many) in
    let lr' : r < length (singles only n) = rw (← e) at lr in
    let o' : 1 < length (at (singles only n) r) = rw (← e) at o in
    let m = length_singles only n f in
    let a = at_single only n f r (omega arith) in
    absurd (omega (arith, ap length a, single_short (get_or only r 65535)))

-- a parent that is added to a list that was emptied stands in it alone
pub added_alone : (free : Bool) (r p : ℕ) (ls : List (List ℕ)) → r < length ls → added free r p (set ls r []) ≡ replaced free r p ls
added_alone false r p ls l = refl
added_alone true r p ls l = rw (get_or-set_same ls r [] [] l) (set-set ls r [] (p ∷ []))
