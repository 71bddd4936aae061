-- What an advance keeps, and the steps of the whole hand-out.
use Rattle.std.proofs.Common.{◌≡◌, ℕ, zero, suc, ◌<◌, List, [], ◌∷◌, ◌++◌, Some, None, Option, sym, refl, ap, ◌∙◌, subst, append_assoc, arith}
use Rattle.std.specs.List.{flat_map}
use Rattle.listing.specs.Routes.{fork, routes_of, come_to, listing, pending, follow, trail, or_else, may, turn}
use Rattle.listing.specs.Odometer.{Falls, End, SoundOf, Sound, FreshAt, Fresh}
use Rattle.listing.proofs.Turns.{Advanced, lower, last, turn_low, step}

-- a fresh choice is sound
pub fresh_sound : (par ch : ℕ → List ℕ) (n r : ℕ) → Fresh par ch n r → Sound par ch n r
fresh_sound par ch zero r f = tt
fresh_sound par ch (suc n) r f = subst (λ (l : List ℕ). SoundOf l (par r) (λ p. Sound par ch n p)) (sym f.0) (go (λ p h. fresh_sound par ch n p h) (par r) f.1)
  where
    go : ((p : ℕ) → Fresh par ch n p → Sound par ch n p) → (ps : List ℕ) → FreshAt ps (λ p. Fresh par ch n p) → SoundOf ps ps (λ p. Sound par ch n p)
    go ih [] h = refl
    go ih (p ∷ ps) h = (([], refl), ih p h)

module _ (lv : ℕ → ℕ) (par : ℕ → List ℕ) (falls : Falls lv par) (ch ch' : ℕ → List ℕ) where
  pub sound_kept : (b n r : ℕ) → lv r < n → Sound par ch n r → turn ch n r ≡ Some b → Advanced lv par ch ch' b → Sound par ch' n r
  unfolding turn
  sound_kept b zero r l s t a = tt
  sound_kept b (suc n) r l s t a = go (λ p l s t. sound_kept b n p l s t a) (ch r) refl s t
    where
      go : ((p : ℕ) → lv p < n → Sound par ch n p → turn ch n p ≡ Some b → Sound par ch' n p) → (cs : List ℕ) → ch r ≡ cs → SoundOf cs (par r) (λ p. Sound par ch n p) → may cs r (λ p. turn ch n p) ≡ Some b → SoundOf (ch' r) (par r) (λ p. Sound par ch' n p)
      go ih [] e s t = let z : ◌≡◌ {A = ℕ} 0 1 = cc in absurd (omega arith)
      go ih (p ∷ []) e s t =
          let h = lower lv par falls ch r p [] s.0 in
          let k = turn_low lv par falls ch n p b s.1 t in
          let same : ch' r ≡ p ∷ [] = a.above r (omega arith) ∙ e in
          subst (λ (l : List ℕ). SoundOf l (par r) (λ p. Sound par ch' n p)) (sym same) (s.0, ih p (omega arith) s.1 t)
      go ih (p ∷ q ∷ qs) e s t = two (turn ch n p) refl t
        where
          two : (o : Option ℕ) → turn ch n p ≡ o → or_else o (Some r) ≡ Some b → SoundOf (ch' r) (par r) (λ p. Sound par ch' n p)
          two None t₁ h =
              let z : r ≡ b = cc in
              let w : p ∷ q ∷ qs ≡ a.old ∷ a.new ∷ a.rest = sym e ∙ ap ch z ∙ a.was in
              let i : ch' r ≡ a.new ∷ a.rest = ap ch' z ∙ a.is in
              let j : a.new ∷ a.rest ≡ q ∷ qs = cc in
              let nq : a.new ≡ q = cc in
              let en : End (q ∷ qs) (par r) = (s.0.0 ++ p ∷ [], s.0.1 ∙ sym (append_assoc s.0.0 (p ∷ []) (q ∷ qs))) in
              subst (λ (l : List ℕ). SoundOf l (par r) (λ p. Sound par ch' n p)) (sym (i ∙ j)) (en, fresh_sound par ch' n q (subst (λ (x : ℕ). Fresh par ch' n x) nq (a.fresh n)))
          two (Some x) t₁ h =
              let lp = lower lv par falls ch r p (q ∷ qs) s.0 in
              let k = turn_low lv par falls ch n p b s.1 (t₁ ∙ h) in
              let same : ch' r ≡ p ∷ q ∷ qs = a.above r (omega arith) ∙ e in
              subst (λ (l : List ℕ). SoundOf l (par r) (λ p. Sound par ch' n p)) (sym same) (s.0, ih p (omega arith) s.1 (t₁ ∙ h))

  -- an advance within the first sink
  pub pending_on : (b n s : ℕ) (ss : List ℕ) → lv s < n → Sound par ch n s → turn ch n s ≡ Some b → Advanced lv par ch ch' b → pending par ch n (s ∷ ss) ≡ trail ch n s [] ∷ pending par ch' n (s ∷ ss)
  unfolding pending
  pending_on b n s ss l so t a = ap (λ l. l ++ listing par n ss) (step lv par falls ch ch' b n s [] l so t a)

  -- where no row goes on, only the routes to the other sinks are left
  pub pending_over : (n s : ℕ) (ss : List ℕ) → lv s < n → Sound par ch n s → turn ch n s ≡ None → pending par ch n (s ∷ ss) ≡ trail ch n s [] ∷ listing par n ss
  unfolding pending
  pending_over n s ss l so t = ap (λ l. l ++ listing par n ss) (last lv par falls ch n s [] l so t)

-- something is still to come as long as a sink is left, and the first is the chosen route
pub comes_first : (par ch : ℕ → List ℕ) (n r : ℕ) (acc : List ℕ) (lv : ℕ → ℕ) → Falls lv par → lv r < n → Sound par ch n r → (l : List (List ℕ)) × (come_to par ch n r acc ≡ trail ch n r acc ∷ l)
unfolding come_to trail
comes_first par ch zero r acc lv falls l s = absurd (omega arith)
comes_first par ch (suc n) r acc lv falls l s = go (λ p l s. comes_first par ch n p (r ∷ acc) lv falls l s) (ch r) s
  where
    go : ((p : ℕ) → lv p < n → Sound par ch n p → (l : List (List ℕ)) × (come_to par ch n p (r ∷ acc) ≡ trail ch n p (r ∷ acc) ∷ l)) → (cs : List ℕ) → SoundOf cs (par r) (λ p. Sound par ch n p) → (l : List (List ℕ)) × (fork cs (r ∷ acc) (λ p. come_to par ch n p (r ∷ acc)) (λ p. routes_of par n p (r ∷ acc)) ≡ follow cs (r ∷ acc) (λ p. trail ch n p (r ∷ acc)) ∷ l)
    go ih [] s = ([], refl)
    go ih (p ∷ ps) s =
        let h = lower lv par falls ch r p ps s.0 in
        let i = ih p (omega arith) s.1 in
        (i.0 ++ flat_map (λ q. routes_of par n q (r ∷ acc)) ps, ap (λ l. l ++ flat_map (λ q. routes_of par n q (r ∷ acc)) ps) i.1)

pub pending_first : (par ch : ℕ → List ℕ) (n s : ℕ) (ss : List ℕ) (lv : ℕ → ℕ) → Falls lv par → lv s < n → Sound par ch n s → (l : List (List ℕ)) × (pending par ch n (s ∷ ss) ≡ trail ch n s [] ∷ l)
unfolding pending
pending_first par ch n s ss lv falls l so = let i = comes_first par ch n s [] lv falls l so in (i.0 ++ listing par n ss, ap (λ l. l ++ listing par n ss) i.1)
