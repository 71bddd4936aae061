-- The odometer gives the listing, one route at a time.
use Rattle.std.proofs.Common.{◌≡◌, ℕ, zero, suc, ◌<◌, ◌≤◌, List, [], ◌∷◌, ◌++◌, Some, None, Option, sym, refl, ap, ◌∙◌, subst, inl, inr, arith}
use Rattle.std.specs.List.{flat_map}
use Rattle.listing.specs.Routes.{fork, routes_of, come_to, listing, pending, follow, trail, or_else, may, turn}
use Rattle.search.specs.Members.{In}
use Rattle.listing.specs.Odometer.{Falls, End, SoundOf, Sound, FreshAt, Fresh}

-- row b goes on to its next parent, and all nearer the start begin anew
pub record Advanced (lv : ℕ → ℕ) (par ch ch' : ℕ → List ℕ) (b : ℕ) : Type 0 where
  pub old : ℕ
  pub new : ℕ
  pub rest : List ℕ
  pub was : ch b ≡ old ∷ new ∷ rest
  pub is : ch' b ≡ new ∷ rest
  pub above : (k : ℕ) → lv b < lv k → ch' k ≡ ch k
  pub fresh : (n : ℕ) → Fresh par ch' n new

append_nil : {A : Type 0} (xs : List A) → xs ++ [] ≡ xs
append_nil [] = refl
append_nil (x ∷ xs) = ap (λ l. x ∷ l) (append_nil xs)

-- a fork whose first branch gives a first element
fork_first : {X : Type 0} (f : ℕ → List X) (ps : List ℕ) (g : List X) (x : X) (xs : List X) → g ≡ x ∷ xs → g ++ flat_map f ps ≡ x ∷ (xs ++ flat_map f ps)
fork_first f ps g x xs e = ap (λ l. l ++ flat_map f ps) e

pub in_end : (x : ℕ) (xs zs : List ℕ) → In x xs → In x (zs ++ xs)
in_end x xs [] h = h
in_end x xs (z ∷ zs) h = inr (in_end x xs zs h)

-- a fresh choice gives all routes
pub fresh_all : (par ch : ℕ → List ℕ) (n r : ℕ) (acc : List ℕ) → Fresh par ch n r → come_to par ch n r acc ≡ routes_of par n r acc
unfolding come_to routes_of
fresh_all par ch zero r acc f = refl
fresh_all par ch (suc n) r acc f =
    ap (λ l. fork l (r ∷ acc) (λ p. come_to par ch n p (r ∷ acc)) (λ p. routes_of par n p (r ∷ acc))) f.0
    ∙ all (λ p h. fresh_all par ch n p (r ∷ acc) h) (par r) f.1
  where
    all : ((p : ℕ) → Fresh par ch n p → come_to par ch n p (r ∷ acc) ≡ routes_of par n p (r ∷ acc)) → (ps : List ℕ) → FreshAt ps (λ p. Fresh par ch n p) → fork ps (r ∷ acc) (λ p. come_to par ch n p (r ∷ acc)) (λ p. routes_of par n p (r ∷ acc)) ≡ fork ps (r ∷ acc) (λ p. routes_of par n p (r ∷ acc)) (λ p. routes_of par n p (r ∷ acc))
    all ih [] h = refl
    all ih (p ∷ ps) h = ap (λ l. l ++ flat_map (λ q. routes_of par n q (r ∷ acc)) ps) (ih p h)

pub all_come : (par ch : ℕ → List ℕ) (n s : ℕ) (ss : List ℕ) → Fresh par ch n s → pending par ch n (s ∷ ss) ≡ listing par n (s ∷ ss)
unfolding pending listing
all_come par ch n s ss f = ap (λ l. l ++ flat_map (λ q. routes_of par n q []) ss) (fresh_all par ch n s [] f)

module _ (lv : ℕ → ℕ) (par : ℕ → List ℕ) (falls : Falls lv par) where
  -- a chosen parent is lower
  pub lower : (ch : ℕ → List ℕ) (r p : ℕ) (qs : List ℕ) → End (p ∷ qs) (par r) → lv p < lv r
  lower ch r p qs e = falls r p (subst (λ (l : List ℕ). In p l) (sym e.1) (in_end p (p ∷ qs) e.0 (inl refl)))

  module _ (ch : ℕ → List ℕ) where
    -- with nothing older left, the chosen route is the last
    pub last : (n r : ℕ) (acc : List ℕ) → lv r < n → Sound par ch n r → turn ch n r ≡ None → come_to par ch n r acc ≡ trail ch n r acc ∷ []
    unfolding come_to trail turn
    last zero r acc l s t = absurd (omega arith)
    last (suc n) r acc l s t = go (λ p l s t. last n p (r ∷ acc) l s t) (ch r) refl s t
      where
        go : ((p : ℕ) → lv p < n → Sound par ch n p → turn ch n p ≡ None → come_to par ch n p (r ∷ acc) ≡ trail ch n p (r ∷ acc) ∷ []) → (cs : List ℕ) → cs ≡ ch r → SoundOf cs (par r) (λ p. Sound par ch n p) → may cs r (λ p. turn ch n p) ≡ None → fork cs (r ∷ acc) (λ p. come_to par ch n p (r ∷ acc)) (λ p. routes_of par n p (r ∷ acc)) ≡ follow cs (r ∷ acc) (λ p. trail ch n p (r ∷ acc)) ∷ []
        go ih [] e s t = refl
        go ih (p ∷ []) e s t = append_nil _ ∙ ih p (let h = lower ch r p [] s.0 in omega arith) s.1 t
        go ih (p ∷ q ∷ qs) e s t = two (turn ch n p) t
          where
            two : (o : Option ℕ) → or_else o (Some r) ≡ None → fork (p ∷ q ∷ qs) (r ∷ acc) (λ p. come_to par ch n p (r ∷ acc)) (λ p. routes_of par n p (r ∷ acc)) ≡ follow (p ∷ q ∷ qs) (r ∷ acc) (λ p. trail ch n p (r ∷ acc)) ∷ []
            two None h = let z : ◌≡◌ {A = ℕ} 0 1 = cc in absurd (omega arith)
            two (Some b) h = let z : ◌≡◌ {A = ℕ} 0 1 = cc in absurd (omega arith)

    -- the row that goes on lies on the chosen route
    pub turn_low : (n r b : ℕ) → Sound par ch n r → turn ch n r ≡ Some b → lv b ≤ lv r
    unfolding turn
    turn_low zero r b s t = let z : ◌≡◌ {A = ℕ} 0 1 = cc in absurd (omega arith)
    turn_low (suc n) r b s t = go (λ p s t. turn_low n p b s t) (ch r) s t
      where
        go : ((p : ℕ) → Sound par ch n p → turn ch n p ≡ Some b → lv b ≤ lv p) → (cs : List ℕ) → SoundOf cs (par r) (λ p. Sound par ch n p) → may cs r (λ p. turn ch n p) ≡ Some b → lv b ≤ lv r
        go ih [] s t = let z : ◌≡◌ {A = ℕ} 0 1 = cc in absurd (omega arith)
        go ih (p ∷ []) s t = let h = lower ch r p [] s.0 in let k = ih p s.1 t in omega arith
        go ih (p ∷ q ∷ qs) s t = two (turn ch n p) refl t
          where
            two : (o : Option ℕ) → turn ch n p ≡ o → or_else o (Some r) ≡ Some b → lv b ≤ lv r
            two None e h = let z : r ≡ b = cc in let y : lv r ≡ lv b = ap lv z in omega arith
            two (Some x) e h = let h' = lower ch r p (q ∷ qs) s.0 in let k = ih p s.1 (e ∙ h) in omega arith

    -- the step: the first route goes, and the others stay
    pub step : (ch' : ℕ → List ℕ) (b n r : ℕ) (acc : List ℕ) → lv r < n → Sound par ch n r → turn ch n r ≡ Some b → Advanced lv par ch ch' b → come_to par ch n r acc ≡ trail ch n r acc ∷ come_to par ch' n r acc
    unfolding come_to trail turn
    step ch' b zero r acc l s t a = absurd (omega arith)
    step ch' b (suc n) r acc l s t a = go (λ p l s t. step ch' b n p (r ∷ acc) l s t a) (ch r) refl s t
      where
        C' : List ℕ → List (List ℕ)
        C' cs = fork cs (r ∷ acc) (λ p. come_to par ch' n p (r ∷ acc)) (λ p. routes_of par n p (r ∷ acc))

        go : ((p : ℕ) → lv p < n → Sound par ch n p → turn ch n p ≡ Some b → come_to par ch n p (r ∷ acc) ≡ trail ch n p (r ∷ acc) ∷ come_to par ch' n p (r ∷ acc)) → (cs : List ℕ) → ch r ≡ cs → SoundOf cs (par r) (λ p. Sound par ch n p) → may cs r (λ p. turn ch n p) ≡ Some b → fork cs (r ∷ acc) (λ p. come_to par ch n p (r ∷ acc)) (λ p. routes_of par n p (r ∷ acc)) ≡ follow cs (r ∷ acc) (λ p. trail ch n p (r ∷ acc)) ∷ C' (ch' r)
        go ih [] e s t = let z : ◌≡◌ {A = ℕ} 0 1 = cc in absurd (omega arith)
        go ih (p ∷ []) e s t =
            let h = lower ch r p [] s.0 in
            let k = turn_low n p b s.1 t in
            let i = ih p (omega arith) s.1 t in
            let same : ch' r ≡ p ∷ [] = a.above r (omega arith) ∙ e in
            ap (λ l. l ++ []) i ∙ ap (λ l. trail ch n p (r ∷ acc) ∷ l) (sym (ap C' same))
        go ih (p ∷ q ∷ qs) e s t = two (turn ch n p) refl t
          where
            two : (o : Option ℕ) → turn ch n p ≡ o → or_else o (Some r) ≡ Some b → fork (p ∷ q ∷ qs) (r ∷ acc) (λ p. come_to par ch n p (r ∷ acc)) (λ p. routes_of par n p (r ∷ acc)) ≡ trail ch n p (r ∷ acc) ∷ C' (ch' r)
            two None t₁ h =
                let z : r ≡ b = cc in
                let w : p ∷ q ∷ qs ≡ a.old ∷ a.new ∷ a.rest = sym e ∙ ap ch z ∙ a.was in
                let i : ch' r ≡ a.new ∷ a.rest = ap ch' z ∙ a.is in
                let nq : a.new ≡ q = cc in
                let nr : a.rest ≡ qs = cc in
                let lp = lower ch r p (q ∷ qs) s.0 in
                let one = last n p (r ∷ acc) (omega arith) s.1 t₁ in
                let f = fresh_all par ch' n a.new (r ∷ acc) (a.fresh n) in
                ap (λ l. l ++ flat_map (λ x. routes_of par n x (r ∷ acc)) (q ∷ qs)) one
                ∙ ap (λ l. trail ch n p (r ∷ acc) ∷ l)
                (ap (λ x. routes_of par n x (r ∷ acc) ++ flat_map (λ y. routes_of par n y (r ∷ acc)) qs) (sym nq)
                ∙ ap (λ l. routes_of par n a.new (r ∷ acc) ++ flat_map (λ y. routes_of par n y (r ∷ acc)) l) (sym nr)
                ∙ ap (λ l. l ++ flat_map (λ y. routes_of par n y (r ∷ acc)) a.rest) (sym f)
                ∙ sym (ap C' i))
            two (Some x) t₁ h =
                let lp = lower ch r p (q ∷ qs) s.0 in
                let k = turn_low n p b s.1 (t₁ ∙ h) in
                let i = ih p (omega arith) s.1 (t₁ ∙ h) in
                let same : ch' r ≡ p ∷ q ∷ qs = a.above r (omega arith) ∙ e in
                ap (λ l. l ++ flat_map (λ y. routes_of par n y (r ∷ acc)) (q ∷ qs)) i ∙ ap (λ l. trail ch n p (r ∷ acc) ∷ l) (sym (ap C' same))
