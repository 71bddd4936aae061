-- The last row of a register taken back.
use Rattle.std.proofs.Common.{◌≡◌, ℕ, zero, suc, ◌+◌, ◌-◌, ◌%◌, ◌<◌, ◌≤◌, List, [], ◌∷◌, map, length, get_or, take, set, sym, refl, ap, ◌∙◌, ⊎_elim, arith}
use Rattle.std.proofs.lemmas.List.{get_or_default, length-set, length-map, length-take, take-map, same_lists}
use Rattle.std.proofs.lemmas.Bool.{cases_eq}
use Rattle.std.proofs.lemmas.Grind.{common_steps}
use Rattle.store.specs.declared.rows.Row.{Row}
use Rattle.store.specs.Rows.{bucket, IsLinked, IsSingle, known, found}
use Rattle.store.proofs.Buckets.{headed}

-- a write of one head keeps all else
module _ {N V : Type 0} (xs : List (Row N V)) (b h : ℕ) (d₁ : Row N V) (lb : b < length xs) where
  abbrev zs : List (Row N V)
  zs = set xs b (headed (get_or xs b d₁) h)

  same : (k : ℕ) (d : Row N V) → ((get_or zs k d).node ≡ (get_or xs k d).node) × ((get_or zs k d).next ≡ (get_or xs k d).next) × ((get_or zs k d).value ≡ (get_or xs k d).value) × (length zs ≡ length xs)
  same k d = grind (arith, common_steps)

  head_here : (d : Row N V) → (get_or zs b d).head ≡ h
  head_here d = grind (arith, common_steps)

  head_other : (k : ℕ) (d : Row N V) → (k ≡ b → ⊥) → (get_or zs k d).head ≡ (get_or xs k d).head
  head_other k d n = grind (arith, common_steps)

  module _ (m : N → ℕ) (n : ℕ) (last : (d : Row N V) → bucket m xs d n ≡ b) (next : (d : Row N V) → h ≡ (get_or xs n d).next) where
    bucket_same : (k : ℕ) (d : Row N V) → bucket m zs d k ≡ bucket m xs d k
    bucket_same k d = let s = same k d in cc

    pub linked_back : IsLinked m xs (n + 1) → IsLinked m zs n
    linked_back l = record {
      heads = λ r d lr.
          ⊎_elim
          (λ (q : bucket m zs d r ≡ b).
          let o = l.nexts n r d (omega arith) lr (sym (bucket_same r d) ∙ q ∙ sym (last d)) in
          let e = next d in
          rw (q, head_here d) (omega (arith, o.0, e), bucket_same h d ∙ (rw e (o.1 ∙ last d)), omega (arith, o.2, e)))
          (λ nq.
          let o = l.heads r d (omega arith) in
          let hn : (get_or xs (bucket m xs d r) d).head ≡ n → ⊥ = λ q. nq (bucket_same r d ∙ sym o.1 ∙ (rw q (last d))) in
          rw (head_other (bucket m zs d r) d nq, bucket_same r d, bucket_same (get_or xs (bucket m xs d r) d).head d) (omega (arith, o.0, hn), o.1, o.2))
          (cases_eq (bucket m zs d r) b);
      nexts = λ r j d lr lj e. rw ((same r d).1, bucket_same (get_or xs r d).next d, bucket_same r d) (l.nexts r j d (omega arith) lj (cc (bucket_same j d, bucket_same r d)));
    }

  pub single_back : (key : N → ℕ) (n : ℕ) → IsSingle key xs (n + 1) → IsSingle key zs n
  single_back key n s j k d lj lk e = let a = same j d in let c = same k d in s j k d (omega arith) (omega arith) (cc)

  pub found_back : (n : ℕ) → n ≤ length xs → found zs n ≡ found xs n
  unfolding found
  found_back n l = same_lists _ _ (grind (arith, common_steps)) (λ k e lk.
      let r : Row N V = record { node = e.0; value = e.1; next = 0; head = 0 } in
      let s = same k r in
      grind (arith, common_steps))

take_front : {A : Type 0} (a b : ℕ) (xs : List A) → a ≤ b → take a (take b xs) ≡ take a xs
take_front zero b xs l = refl
take_front (suc a) zero xs l = absurd (omega arith)
take_front (suc a) (suc b) [] l = refl
take_front (suc a) (suc b) (x ∷ xs) l = ap (λ ys. x ∷ ys) (take_front a b xs (omega arith))

pub found_less : {N V : Type 0} (xs : List (Row N V)) (n : ℕ) → n ≤ length xs → found xs (n - 1) ≡ take (length (found xs n) - 1) (found xs n)
unfolding found
found_less xs n l =
    let e : length (map known (take n xs)) ≡ n = simp (length-map, length-take) (omega arith) in
    rw (e, take-map, take_front (n - 1) n xs (omega arith)) refl
