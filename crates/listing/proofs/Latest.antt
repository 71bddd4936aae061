-- The latest sink, and the steps from route to route.
use Rattle.std.proofs.Common.{◌≡◌, ℕ, ◌+◌, ◌-◌, ◌<◌, ◌≤◌, List, [], ◌∷◌, ◌++◌, length, get_or, take, reverse, Some, None, sym, refl, ap, ◌∙◌, subst, inl, arith}
use Rattle.std.specs.Prelude.{slice_get}
use Rattle.std.proofs.lemmas.List.{take_more, take_all, reverse-append}
use Rattle.links.specs.Listings.{at}
use Rattle.links.specs.Parentages.{Parentage}
use Rattle.search.specs.Members.{In}
use Rattle.listing.specs.Routes.{pending, listing}
use Rattle.listing.specs.Odometer.{End}
use Rattle.listing.specs.Handing.{par, Falling, Ready, SoundAt, SoundFrom, rows_to_come, next_turn, next_route, route, AllCome, begun, gone_on}
use Rattle.listing.proofs.Ranks.{par_inside, in_reverse, in_left, level, level_falls, level_below}
use Rattle.listing.proofs.Keeps.{pending_first}
use Rattle.listing.proofs.Steps.{turn_older, stepped, over, readied}
use Rattle.listing.proofs.Walks.{get_none, get_some}

-- the last of the first n comes first in reverse
pub latest : (xs : List ℕ) (n d : ℕ) → 0 < n → n ≤ length xs → reverse (take n xs) ≡ get_or xs (n - 1) d ∷ reverse (take (n - 1) xs)
latest xs n d p l =
    let q : n ≡ n - 1 + 1 = omega arith in
    let i : n - 1 < length xs = omega arith in
    ap (λ k. reverse (take k xs)) q ∙ ap reverse (take_more xs (n - 1) d i) ∙ reverse-append (take (n - 1) xs) (get_or xs (n - 1) d ∷ [])

-- the sinks but the latest
abbrev pub others : List ℕ → List ℕ
others xs = take (length xs - 1) xs

pub in_reversed : (x : ℕ) (xs ys : List ℕ) → reverse xs ≡ x ∷ ys → In x xs
in_reversed x xs ys e = in_reverse x xs (subst (λ (l : List ℕ). In x l) (sym e) (inl refl))

-- a sink, and the sinks before it
pub record Split (xs : List ℕ) (s : ℕ) : Type 0 where
  pub is : reverse xs ≡ s ∷ reverse (others xs)
  pub among : In s xs
  pub rest : (t : ℕ) → In t (others xs) → In t xs

pub split_last : (xs : List ℕ) → 0 < length xs → Split xs (get_or xs (length xs - 1) 0)
split_last xs p =
    let w : reverse xs ≡ get_or xs (length xs - 1) 0 ∷ reverse (others xs) = ap reverse (sym (take_all (length xs) xs (omega arith))) ∙ latest xs (length xs) 0 p (omega arith) in
    let q : length xs ≡ length xs - 1 + 1 = omega arith in
    let e : xs ≡ others xs ++ get_or xs (length xs - 1) 0 ∷ [] = sym (take_all (length xs) xs (omega arith)) ∙ ap (λ k. take k xs) q ∙ take_more xs (length xs - 1) 0 (omega arith) in
    record {
      is = w;
      among = in_reversed (get_or xs (length xs - 1) 0) xs (reverse (others xs)) w;
      rest = λ t h. subst (λ (l : List ℕ). In t l) (sym e) (in_left t (others xs) (get_or xs (length xs - 1) 0 ∷ []) h);
    }

pub split : (xs : List ℕ) (s : ℕ) → Some s ≡ slice_get (reverse xs) 0 → Split xs s
split [] s e = cc
split (x ∷ xs) s e =
    let o = split_last (x ∷ xs) (omega arith) in
    let g = get_some (reverse (x ∷ xs)) s e in
    subst (Split (x ∷ xs)) (ap (λ (l : List ℕ). get_or l 0 0) (sym o.is ∙ g.1)) o

pub no_latest : (xs : List ℕ) → None ≡ slice_get (reverse xs) 0 → reverse xs ≡ []
no_latest xs e = get_none (reverse xs) e

pub falling_same : {ls ms : List (List ℕ)} → ms ≡ ls → Falling ls → Falling ms
falling_same {ls} {ms} e f = subst Falling (sym e) f

pub some_there : (xs : List ℕ) (s : ℕ) → Some s ≡ slice_get (reverse xs) 0 → 0 < length xs
some_there [] s e = cc
some_there (x ∷ xs) s e = omega arith

-- with no sink nothing is to come
pub none_come : (lists left : List (List ℕ)) (xs : List ℕ) → reverse xs ≡ [] → rows_to_come lists left xs ≡ []
unfolding pending
none_come lists left xs e = rw e refl

pub none_ready : (lists left : List (List ℕ)) (xs : List ℕ) → Falling lists → ((s : ℕ) → In s xs → s < length lists) → reverse xs ≡ [] → Ready lists left xs × AllCome lists left xs
unfolding pending listing
none_ready lists left xs f inside e = (record { falling = f; inside = inside; sound = rw e tt }, rw e refl)

module _ (v : Parentage) (long : length v.left ≡ length v.lists) where
  abbrev N : ℕ
  N = length v.lists

  module _ (f : Falling v.lists) (xs : List ℕ) (inside : (s : ℕ) → In s xs → s < length v.lists) where
    -- after a new beginning all is to come
    pub begins : (s : ℕ) → Some s ≡ slice_get (reverse xs) 0 → Ready v.lists (begun v s).left xs × AllCome v.lists (begun v s).left xs
    begins s e =
        let o = split xs s e in
        let l = inside s o.among in
        let z = readied (level v.lists f) (par v.lists) (level_falls v.lists f) N (par_inside f) (level_below v.lists f) v.left long s (reverse (others xs)) l in (
          record { falling = f; inside = inside; sound = subst (λ (y : List ℕ). SoundFrom v.lists (begun v s).left y) (sym o.is) z.0 },
          rw o.is z.1,
        )

  module _ (xs : List ℕ) (r : Ready v.lists v.left xs) (s : ℕ) (e : reverse xs ≡ s ∷ reverse (others xs)) where
    abbrev lv : ℕ → ℕ
    lv = level v.lists r.falling

    among : s < length v.lists
    among = r.inside s (in_reversed s xs (reverse (others xs)) e)

    so : SoundAt v.lists v.left s
    so = subst (λ (y : List ℕ). SoundFrom v.lists v.left y) e r.sound

    -- the row that goes on next
    pub older : (b : ℕ) → next_turn v.lists v.left s ≡ Some b → (b < length v.lists) × (1 < length (at v.left b)) × End (at v.left b) (par v.lists b)
    older b t =
        let o = turn_older (par v.lists) (at v.left) N (par_inside r.falling) N s b among so t in
        (o.0, omega (arith, ap length o.2.3), o.1)

    pub goes_on : (b : ℕ) → next_turn v.lists v.left s ≡ Some b → Ready v.lists (gone_on v b).left xs × (rows_to_come v.lists v.left xs ≡ next_route v.lists v.left xs ∷ rows_to_come v.lists (gone_on v b).left xs)
    goes_on b t =
        let z = stepped lv (par v.lists) (level_falls v.lists r.falling) N (par_inside r.falling) (level_below v.lists r.falling) v.left long s among so b (reverse (others xs)) t in (
          record { falling = r.falling; inside = r.inside; sound = subst (λ (y : List ℕ). SoundFrom v.lists (gone_on v b).left y) (sym e) z.0 },
          rw e z.1,
        )

    pub goes_over : next_turn v.lists v.left s ≡ None → rows_to_come v.lists v.left xs ≡ next_route v.lists v.left xs ∷ listing (par v.lists) N (reverse (others xs))
    goes_over t = rw e (over lv (par v.lists) (level_falls v.lists r.falling) N (par_inside r.falling) (level_below v.lists r.falling) v.left long s among so (reverse (others xs)) t)

    -- the chosen route is the first to come
    pub comes_first : (ys : List (List ℕ)) × (rows_to_come v.lists v.left xs ≡ route v.lists v.left s ∷ ys)
    comes_first =
        let o = pending_first (par v.lists) (at v.left) N s (reverse (others xs)) lv (level_falls v.lists r.falling) (level_below v.lists r.falling s among) so in
        (o.0, rw e o.1)
