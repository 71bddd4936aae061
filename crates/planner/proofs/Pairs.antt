-- Rows and the lists of their parents stay one for one.
use Rattle.std.proofs.Common.{◌≡◌, ℕ, suc, ◌<◌, Bool, true, false, List, [], ◌∷◌, ◌++◌, length, refl, ◌∙◌, arith, length-append, length-set}
use Rattle.std.specs.Prelude.{if◌then◌else◌}
use Rattle.std.specs.List.{AllByRecursion}
use Rattle.store.specs.Registers.{Listing}
use Rattle.links.specs.Parentages.{Parentage, replaced}
use Rattle.links.specs.Listings.{added}
use Rattle.planner.specs.Standing.{Below, IsPaired}
use Rattle.planner.proofs.Maps.{below_push, all_more, all_push, all_set, all_at}

below_if : (n i : ℕ) (free : Bool) → i < n → Below n (if free then i ∷ [] else [])
below_if n i true h = (h, tt)
below_if n i false h = tt

all_added : (n : ℕ) (free : Bool) (j i : ℕ) (ps : List (List ℕ)) → AllByRecursion (Below n) ps → i < n → AllByRecursion (Below n) (added free j i ps)
all_added n true j i ps b h = all_set n ps j _ b (below_push n _ i (all_at n ps j b) h)
all_added n false j i ps b h = b

length_added : (free : Bool) (j i : ℕ) (ps : List (List ℕ)) → length (added free j i ps) ≡ length ps
length_added true j i ps = length-set ps j _
length_added false j i ps = refl

module _ {N C : Type 0} (r r' : Listing N C) (p p' : Parentage) (pair : IsPaired r p) (room : r'.room ≡ r.room) (rows : p'.rows ≡ p.rows) where
  -- a row has another list, of one parent or none
  pub paired_replaced : (free : Bool) (j i : ℕ) → length r'.listed ≡ length r.listed → p'.lists ≡ replaced free j i p.lists → i < length r.listed → IsPaired r' p'
  paired_replaced free j i n e h = record {
    some = rw room pair.some;
    few = rw room pair.few;
    fits = rw (room, n) pair.fits;
    served = rw (room, rows) pair.served;
    even = grind (arith, length-set, pair.even);
    parents = rw (n, e) (all_set (length r.listed) p.lists j _ pair.parents (below_if _ i free h));
  }

  -- a row has one parent more, or the same
  pub paired_added : (free : Bool) (j i : ℕ) → r'.listed ≡ r.listed → p'.lists ≡ added free j i p.lists → i < length r.listed → IsPaired r' p'
  paired_added free j i n e h = record {
    some = rw room pair.some;
    few = rw room pair.few;
    fits = rw (room, n) pair.fits;
    served = rw (room, rows) pair.served;
    even = rw (e, n) (length_added free j i p.lists ∙ pair.even);
    parents = rw (n, e) (all_added (length r.listed) free j i p.lists pair.parents h);
  }

  -- one more row
  pub paired_push : (free : Bool) (i : ℕ) → length r'.listed ≡ suc (length r.listed) → length r.listed < r.room → p'.lists ≡ replaced free (length r.listed) i (p.lists ++ [] ∷ []) → i < length r.listed → IsPaired r' p'
  paired_push free i n l e h = record {
    some = rw room pair.some;
    few = rw room pair.few;
    fits = rw (room, n) l;
    served = rw (room, rows) pair.served;
    even = grind (arith, length-set, length-append, pair.even);
    parents = rw (n, e) (all_set (suc (length r.listed)) (p.lists ++ [] ∷ []) (length r.listed) _ (all_push _ p.lists [] (all_more _ _ p.lists (omega arith) pair.parents) tt) (below_if _ i free (omega (arith, h))));
  }
