-- The steps of the odometer.
use Rattle.std.proofs.Common.{◌≡◌, ℕ, zero, suc, ◌<◌, List, [], ◌∷◌, ◌++◌, length, set, drop, Some, None, Option, sym, refl, ap, ◌∙◌, subst, inl, inr, arith}
use Rattle.std.proofs.lemmas.List.{get_or-set_same, get_or-set_other, length-set}
use Rattle.listing.specs.Routes.{or_else, may, turn, follow, trail, pending, listing}
use Rattle.search.specs.Members.{In}
use Rattle.links.specs.Listings.{at}
use Rattle.listing.specs.Odometer.{Falls, End, SoundOf, Sound, FreshAt, Fresh, anew, turned}
use Rattle.listing.proofs.Turns.{Advanced, in_end, all_come}
use Rattle.listing.proofs.Keeps.{fresh_sound, sound_kept, pending_on, pending_over}

-- the row that goes on has an older parent left, and lies among the rows
pub turn_older : (par ch : ℕ → List ℕ) (N : ℕ) → ((r p : ℕ) → In p (par r) → p < N) → (n r b : ℕ) → r < N → Sound par ch n r → turn ch n r ≡ Some b → (b < N) × End (ch b) (par b) × ((p : ℕ) × (q : ℕ) × (qs : List ℕ) × (ch b ≡ p ∷ q ∷ qs))
unfolding turn
turn_older par ch N inside zero r b lr s t = let z : ◌≡◌ {A = ℕ} 0 1 = cc in absurd (omega arith)
turn_older par ch N inside (suc n) r b lr s t = go (λ p lp s t. turn_older par ch N inside n p b lp s t) (ch r) refl s t
  where
    go : ((p : ℕ) → p < N → Sound par ch n p → turn ch n p ≡ Some b → (b < N) × End (ch b) (par b) × ((p : ℕ) × (q : ℕ) × (qs : List ℕ) × (ch b ≡ p ∷ q ∷ qs))) → (cs : List ℕ) → ch r ≡ cs → SoundOf cs (par r) (λ p. Sound par ch n p) → may cs r (λ p. turn ch n p) ≡ Some b → (b < N) × End (ch b) (par b) × ((p : ℕ) × (q : ℕ) × (qs : List ℕ) × (ch b ≡ p ∷ q ∷ qs))
    go ih [] e s t = let z : ◌≡◌ {A = ℕ} 0 1 = cc in absurd (omega arith)
    go ih (p ∷ []) e s t = ih p (inside r p (subst (λ (x : List ℕ). In p x) (sym s.0.1) (in_end p (p ∷ []) s.0.0 (inl refl)))) s.1 t
    go ih (p ∷ q ∷ qs) e s t = two (turn ch n p) refl t
      where
        two : (o : Option ℕ) → turn ch n p ≡ o → or_else o (Some r) ≡ Some b → (b < N) × End (ch b) (par b) × ((p : ℕ) × (q : ℕ) × (qs : List ℕ) × (ch b ≡ p ∷ q ∷ qs))
        two None t₁ h =
            let z : r ≡ b = cc in
            let en : End (ch r) (par r) = (s.0.0, s.0.1 ∙ ap (λ x. s.0.0 ++ x) (sym e)) in
            subst (λ (x : ℕ). (x < N) × End (ch x) (par x) × ((p : ℕ) × (q : ℕ) × (qs : List ℕ) × (ch x ≡ p ∷ q ∷ qs))) z (lr, en, (p, q, qs, e))
        two (Some x) t₁ h = ih p (inside r p (subst (λ (x : List ℕ). In p x) (sym s.0.1) (in_end p (p ∷ q ∷ qs) s.0.0 (inl refl)))) s.1 (t₁ ∙ h)

module _ (lv : ℕ → ℕ) (par : ℕ → List ℕ) (falls : Falls lv par) where
  first_lower : (r p : ℕ) (ps : List ℕ) → par r ≡ p ∷ ps → lv p < lv r
  first_lower r p ps e = falls r p (subst (λ (x : List ℕ). In p x) (sym e) (inl refl))

  set_above : (left : List (List ℕ)) (r k : ℕ) (x : List ℕ) → lv r < lv k → at (set left r x) k ≡ at left k
  set_above left r k x l = get_or-set_other left r k x [] (λ q. let z : lv k ≡ lv r = ap lv q in omega arith)

  pub anew_above : (m r : ℕ) (left : List (List ℕ)) (k : ℕ) → lv r < lv k → at (anew par m r left) k ≡ at left k
  unfolding anew
  anew_above zero r left k l = refl
  anew_above (suc m) r left k l = go (λ p left l. anew_above m p left k l) (par r) refl
    where
      go : ((p : ℕ) (left : List (List ℕ)) → lv p < lv k → at (anew par m p left) k ≡ at left k) → (ps : List ℕ) → par r ≡ ps → at (follow ps (set left r (par r)) (λ p. anew par m p (set left r (par r)))) k ≡ at left k
      go ih [] e = set_above left r k (par r) l
      go ih (p ∷ ps) e = let z = first_lower r p ps e in ih p (set left r (par r)) (omega arith) ∙ set_above left r k (par r) l

  pub length_anew : (m r : ℕ) (left : List (List ℕ)) → length (anew par m r left) ≡ length left
  unfolding anew
  length_anew zero r left = refl
  length_anew (suc m) r left = go (λ p left. length_anew m p left) (par r)
    where
      go : ((p : ℕ) (left : List (List ℕ)) → length (anew par m p left) ≡ length left) → (ps : List ℕ) → length (follow ps (set left r (par r)) (λ p. anew par m p (set left r (par r)))) ≡ length left
      go ih [] = length-set left r (par r)
      go ih (p ∷ ps) = ih p (set left r (par r)) ∙ length-set left r (par r)

  module _ (N : ℕ) (inside : (r p : ℕ) → In p (par r) → p < N) where
    pub anew_fresh : (m r : ℕ) (left : List (List ℕ)) → lv r < m → r < N → length left ≡ N → (j : ℕ) → Fresh par (at (anew par m r left)) j r
    unfolding anew
    anew_fresh zero r left l lr e j = absurd (omega arith)
    anew_fresh (suc m) r left l lr e zero = tt
    anew_fresh (suc m) r left l lr e (suc j) = go (λ p left lp l e. anew_fresh m p left lp l e j) (par r) refl
      where
        same : at (set left r (par r)) r ≡ par r
        same = get_or-set_same left r (par r) [] (omega arith)

        go : ((p : ℕ) (left : List (List ℕ)) → lv p < m → p < N → length left ≡ N → Fresh par (at (anew par m p left)) j p) → (ps : List ℕ) → par r ≡ ps → (at (follow ps (set left r (par r)) (λ p. anew par m p (set left r (par r)))) r ≡ par r) × FreshAt (par r) (λ p. Fresh par (at (follow ps (set left r (par r)) (λ p. anew par m p (set left r (par r))))) j p)
        go ih [] f = (same, subst (λ (x : List ℕ). FreshAt x (λ p. Fresh par (at (set left r (par r))) j p)) (sym f) tt)
        go ih (p ∷ ps) f =
            let z = first_lower r p ps f in
            let lp : p < N = inside r p (subst (λ (x : List ℕ). In p x) (sym f) (inl refl)) in
            let g = ih p (set left r (par r)) (omega arith) lp (length-set left r (par r) ∙ e) in (
              anew_above m p (set left r (par r)) r z ∙ same,
              subst (λ (x : List ℕ). FreshAt x (λ q. Fresh par (at (anew par m p (set left r (par r)))) j q)) (sym f) g,
            )

    pub length_turned : (n b : ℕ) (left : List (List ℕ)) → length (turned par n b left) ≡ length left
    length_turned n b left = go (at (set left b (drop 1 (at left b))) b)
      where
        go : (ps : List ℕ) → length (follow ps (set left b (drop 1 (at left b))) (λ p. anew par n p (set left b (drop 1 (at left b))))) ≡ length left
        go [] = length-set left b (drop 1 (at left b))
        go (p ∷ ps) = length_anew n p (set left b (drop 1 (at left b))) ∙ length-set left b (drop 1 (at left b))

    module _ (low : (r : ℕ) → r < N → lv r < N) (left : List (List ℕ)) (long : length left ≡ N) where
      pub advanced : (b p q : ℕ) (qs : List ℕ) → b < N → at left b ≡ p ∷ q ∷ qs → End (at left b) (par b) → Advanced lv par (at left) (at (turned par N b left)) b
      advanced b p q qs lb e en =
          let on : List (List ℕ) = set left b (q ∷ qs) in
          let here : at on b ≡ q ∷ qs = get_or-set_same left b (q ∷ qs) [] (omega arith) in
          let is_on : turned par N b left ≡ anew par N q on = ap (λ x. follow (at (set left b (drop 1 x)) b) (set left b (drop 1 x)) (λ p. anew par N p (set left b (drop 1 x)))) e ∙ ap (λ x. follow x on (λ p. anew par N p on)) here in
          let iq : In q (par b) = subst (λ (x : List ℕ). In q x) (sym (en.1 ∙ ap (λ x. en.0 ++ x) e)) (in_end q (p ∷ q ∷ qs) en.0 (inr (inl refl))) in
          let lq = falls b q iq in
          subst (λ (l : List (List ℕ)). Advanced lv par (at left) (at l) b) (sym is_on)
          record {
            old = p;
            new = q;
            rest = qs;
            was = e;
            is = anew_above N q on b lq ∙ here;
            above = λ k lk. anew_above N q on k (omega arith) ∙ set_above left b k (q ∷ qs) lk;
            fresh = anew_fresh N q on (low q (inside b q iq)) (inside b q iq) (length-set left b (q ∷ qs) ∙ long);
          }

      module _ (s : ℕ) (ls : s < N) (so : Sound par (at left) N s) where
        pub stepped : (b : ℕ) (ss : List ℕ) → turn (at left) N s ≡ Some b → Sound par (at (turned par N b left)) N s × (pending par (at left) N (s ∷ ss) ≡ trail (at left) N s [] ∷ pending par (at (turned par N b left)) N (s ∷ ss))
        stepped b ss t =
            let o = turn_older par (at left) N inside N s b ls so t in
            let a = advanced b o.2.0 o.2.1 o.2.2 o.0 o.2.3 o.1 in
            let l = low s ls in (
              sound_kept lv par falls (at left) (at (turned par N b left)) b N s l so t a,
              pending_on lv par falls (at left) (at (turned par N b left)) b N s ss l so t a,
            )

        pub over : (ss : List ℕ) → turn (at left) N s ≡ None → pending par (at left) N (s ∷ ss) ≡ trail (at left) N s [] ∷ listing par N ss
        over ss t = pending_over lv par falls (at left) (at left) N s ss (low s ls) so t

      -- after a new beginning the whole listing is to come
      pub readied : (s : ℕ) (ss : List ℕ) → s < N → Sound par (at (anew par N s left)) N s × (pending par (at (anew par N s left)) N (s ∷ ss) ≡ listing par N (s ∷ ss))
      readied s ss l =
          let f = anew_fresh N s left (low s l) l long N in
          (fresh_sound par (at (anew par N s left)) N s f, all_come par (at (anew par N s left)) N s ss f)
