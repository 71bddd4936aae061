-- What a hand-out gives, and what it leaves, where the first route to come is known.
use Rattle.std.proofs.Common.{◌≡◌, ℕ, ◌<◌, ◌≤◌, true, false, leb, List, [], ◌∷◌, ◌++◌, map, length, drop, Some, None, Ok, Err, sym, refl, ap, ◌∙◌}
use Rattle.std.proofs.lemmas.List.{length-map, take_at}
use Rattle.std.proofs.lemmas.Bool.{cond-true, cond-false, le-leb, lt-leb}
use Rattle.search.specs.declared.refusal.HandOutRefusal.TheVariants.{Short}
use Rattle.search.specs.Calls.{gave, denied, handed, kept}
use Rattle.listing.specs.Handing.{given_of}

module _ {N : Type 0} (key : N → ℕ) (k : ℕ → ℕ) (out : List N) (tc : List (List ℕ)) where
  abbrev come : List (List ℕ)
  come = map (map k) tc

  pub gives_none : tc ≡ [] → given_of key (Ok None) out ≡ handed come (length out)
  gives_none e = rw e refl

  pub leaves_none : tc ≡ [] → come ≡ kept come (length out)
  leaves_none e = rw e refl

  module _ (x : List ℕ) (xs : List (List ℕ)) (e : tc ≡ x ∷ xs) (n : ℕ) (q : n ≡ length x) where
    long : length (map k x) ≡ n
    long = length-map x k ∙ sym q

    module _ (short : length out < n) where
      refused : leb (length (map k x)) (length out) ≡ false
      refused = ap (λ j. leb j (length out)) long ∙ lt-leb n (length out) short

      pub gives_short : given_of key (Err (Short n)) out ≡ handed come (length out)
      gives_short = rw e (sym (cond-false _ _ _ refused ∙ ap (λ j. denied (Short j)) long))

      pub leaves_short : come ≡ kept come (length out)
      leaves_short = rw e (sym (cond-false _ _ _ refused))

    module _ (fits : n ≤ length out) where
      has_room : leb (length (map k x)) (length out) ≡ true
      has_room = ap (λ j. leb j (length out)) long ∙ le-leb n (length out) fits

      pub gives_full : (w : List N) → map key w ≡ map k x → given_of key (Ok (Some n)) (w ++ drop n out) ≡ handed come (length out)
      gives_full w a =
          let l : length w ≡ n = sym (length-map w key) ∙ ap length a ∙ long in
          rw e (ap (λ y. gave (map key y)) (take_at w (drop n out) n l) ∙ ap gave a ∙ sym (cond-true _ _ _ has_room))

      pub leaves_full : map (map k) xs ≡ kept come (length out)
      leaves_full = rw e (sym (cond-true _ _ _ has_room))
