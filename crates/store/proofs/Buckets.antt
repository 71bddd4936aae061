-- The hash chains of a register: a look-up meets every row of its bucket, and a new row or value keeps them.
use Rattle.std.proofs.Common.{◌≡◌, ℕ, zero, suc, ◌+◌, ◌%◌, ◌<◌, ◌≤◌, false, eqb, List, [], ◌∷◌, ◌++◌, map, length, get_or, take, set, Some, None, sym, refl, ◌∙◌, ⊎_elim, arith}
use Rattle.std.proofs.lemmas.List.{get_or_default, length-set, take_more, map-append, map-set, same_lists}
use Rattle.std.proofs.Math.Nat.{mod-eq_of_lt}
use Rattle.std.proofs.Math.Seq.{take-set-lt}
use Rattle.std.proofs.lemmas.Bool.{cases_eq, eqb-false}
use Rattle.std.proofs.lemmas.Grind.{common_steps}
use Rattle.store.specs.declared.rows.Row.{Row}
use Rattle.store.specs.Rows.{bucket, IsLinked, IsSingle, known, valued, found, number_of}
use Rattle.store.specs.Registers.{IsRegister}
use Rattle.store.proofs.Fronts.{length_front, read_front}

pub length_found : {N V : Type 0} (xs : List (Row N V)) (n : ℕ) → n ≤ length xs → length (found xs n) ≡ n
unfolding found
length_found = length_front known

pub found_at : {N V : Type 0} (xs : List (Row N V)) (n k : ℕ) (d : Row N V) (e : N × V) → n ≤ length xs → k < n → get_or (found xs n) k e ≡ known (get_or xs k d)
unfolding found
found_at = read_front known

-- a row with another latest row of its bucket
abbrev pub headed : {N V : Type 0} → Row N V → ℕ → Row N V
headed x h = record { node = x.node; value = x.value; next = x.next; head = h }

-- what the writes of a new row leave
pub record Grown {N V : Type 0} (xs zs : List (Row N V)) (n b : ℕ) (node : N) (value : V) (next : ℕ) : Type 0 where
  pub node_here : (d : Row N V) → (get_or zs n d).node ≡ node
  pub nodes : (k : ℕ) (d : Row N V) → (k ≡ n → ⊥) → (get_or zs k d).node ≡ (get_or xs k d).node
  pub value_here : (d : Row N V) → (get_or zs n d).value ≡ value
  pub values : (k : ℕ) (d : Row N V) → (k ≡ n → ⊥) → (get_or zs k d).value ≡ (get_or xs k d).value
  pub next_here : (d : Row N V) → (get_or zs n d).next ≡ next
  pub nexts : (k : ℕ) (d : Row N V) → (k ≡ n → ⊥) → (get_or zs k d).next ≡ (get_or xs k d).next
  pub head_here : (d : Row N V) → (get_or zs b d).head ≡ n
  pub heads : (k : ℕ) (d : Row N V) → (k ≡ b → ⊥) → (get_or zs k d).head ≡ (get_or xs k d).head
  pub long : length zs ≡ length xs

pub grown : {N V : Type 0} (xs : List (Row N V)) (n b : ℕ) (node : N) (value : V) (next : ℕ) (d₁ d₂ : Row N V) → n < length xs → b < length xs → Grown xs (set (set xs n (record { node = node; value = value; next = next; head = (get_or xs n d₁).head })) b (headed (get_or (set xs n (record { node = node; value = value; next = next; head = (get_or xs n d₁).head })) b d₂) n)) n b node value next
grown xs n b node value next d₁ d₂ ln lb = grind (arith, common_steps)

module _ {N V : Type 0} {xs zs : List (Row N V)} {n b : ℕ} {node : N} {value : V} {next : ℕ} (g : Grown xs zs n b node value next) (m : N → ℕ) where
  bucket_kept : (k : ℕ) (d : Row N V) → (k ≡ n → ⊥) → bucket m zs d k ≡ bucket m xs d k
  bucket_kept k d ne = let q = g.nodes k d ne in cc

  bucket_new : (d : Row N V) → m node % length xs ≡ b → bucket m zs d n ≡ b
  bucket_new d e = let q = g.node_here d in cc

  pub linked_grown : m node % length xs ≡ b → ((d : Row N V) → next ≡ (get_or xs b d).head) → IsLinked m xs n → IsLinked m zs (n + 1)
  linked_grown e en l = record {
    heads = λ r d lr.
        ⊎_elim
        (λ (q : bucket m zs d r ≡ b). rw (q, g.head_here d, bucket_new d e) (omega arith, refl, omega arith))
        (λ nq.
        let nr : r ≡ n → ⊥ = λ q. nq (rw q (bucket_new d e)) in
        let o = l.heads r d (omega arith) in
        let bo = bucket_kept (get_or xs (bucket m xs d r) d).head d (λ p. omega (arith, o.0)) in
        let lh : (get_or xs (bucket m xs d r) d).head < n + 1 = omega (arith, o.0) in
        rw (g.heads (bucket m zs d r) d nq, bucket_kept r d nr, bo) (lh, o.1, o.2))
        (cases_eq (bucket m zs d r) b);
    nexts = λ r j d lr lj eb.
        let bj = bucket_kept j d (λ q. omega arith) in
        ⊎_elim
        (λ (q : r ≡ n).
        let jb : bucket m xs d j ≡ b = sym bj ∙ eb ∙ rw q (bucket_new d e) in
        let o = rw jb at (l.heads j d (omega arith)) in
        rw (q, g.next_here d, en d, bucket_kept (get_or xs b d).head d (λ p. omega (arith, o.0)), bucket_new d e) o)
        (λ nr.
        let br = bucket_kept r d nr in
        let o = l.nexts r j d (omega arith) lj (sym bj ∙ eb ∙ br) in
        rw (g.nexts r d nr, br, bucket_kept (get_or xs r d).next d (λ p. omega (arith, o.0))) o)
        (cases_eq r n);
  }

module _ {N V : Type 0} {xs zs : List (Row N V)} {n b : ℕ} {node : N} {value : V} {next : ℕ} (g : Grown xs zs n b node value next) where
  pub single_grown : (key : N → ℕ) → IsSingle key xs n → ((k : ℕ) (d : Row N V) → k < n → key (get_or xs k d).node ≡ key node → ⊥) → IsSingle key zs (n + 1)
  single_grown key s fresh j k d lj lk e =
      let i = s j k d in
      let fj = fresh j d in
      let fk = fresh k d in
      let nj = g.nodes j d in
      let nk = g.nodes k d in
      let nh = g.node_here d in
      grind arith

  pub found_grown : Row N V → n < length xs → found zs (n + 1) ≡ found xs n ++ (node, value) ∷ []
  unfolding found
  found_grown d ln =
      let more = take_more zs n d (omega (arith, g.long)) in
      let front : map known (take n zs) ≡ map known (take n xs) =
      same_lists _ _ (grind (arith, common_steps))
      (λ k e lk.
      let r : Row N V = record { node = e.0; value = e.1; next = 0; head = 0 } in
      let nk = g.nodes k r in
      let vk = g.values k r in
      grind (arith, common_steps)) in
      let nh = g.node_here d in
      let vh = g.value_here d in
      grind (arith, map-append)

pub small_rem : (a b : ℕ) → a < b → a % b ≡ a
small_rem a b l = mod-eq_of_lt l

-- where row r has another key, no row of the key lies later than the next of r
pub from_next : {N V : Type 0} (key m : N → ℕ) → ((x y : N) → key x ≡ key y → m x ≡ m y) → {xs : List (Row N V)} {n : ℕ} → IsLinked m xs n → n ≤ length xs → (node : N) (r k : ℕ) (d d₁ d₂ : Row N V) → r < n → eqb (key (get_or xs r d₂).node) (key node) ≡ false → key (get_or xs k d).node ≡ key node → bucket m xs d r ≡ m node % length xs → k ≤ r → ((get_or xs r d₁).next < r) × (bucket m xs d (get_or xs r d₁).next ≡ m node % length xs) × (k ≤ (get_or xs r d₁).next)
from_next key m alike {xs} {n} l ln node r k d d₁ d₂ lr t e er le =
    let a = alike (get_or xs k d).node node e in
    let p = get_or_default xs r d d₂ (omega arith) in
    let ne : k ≡ r → ⊥ = λ q. eqb-false _ _ t (cc) in
    let o = l.nexts r k d lr (omega arith) (cc) in
    rw (get_or_default xs r d₁ d (omega arith)) (o.0, o.1 ∙ er, o.2)

pub number_none : {N V : Type 0} (key : N → ℕ) (xs : List (Row N V)) (n q : ℕ) → n ≤ length xs → ((k : ℕ) (d : Row N V) → k < n → key (get_or xs k d).node ≡ q → ⊥) → number_of key q (found xs n) ≡ None
unfolding found
number_none key [] n q ln h = let z : n ≡ 0 = omega arith in grind arith
number_none key (x ∷ xs) zero q ln h = refl
number_none key (x ∷ xs) (suc n) q ln h =
    let ne = h 0 x (omega arith) in
    let r = number_none key xs n q (omega arith) (λ k d lk. h (suc k) d (omega arith)) in
    grind arith

pub number_some : {N V : Type 0} (key : N → ℕ) (xs : List (Row N V)) (n q p : ℕ) → n ≤ length xs → IsSingle key xs n → p < n → ((d : Row N V) → key (get_or xs p d).node ≡ q) → number_of key q (found xs n) ≡ Some p
unfolding found
number_some key [] n q p ln s lp e = absurd (omega arith)
number_some key (x ∷ xs) zero q p ln s lp e = absurd (omega arith)
number_some key (x ∷ xs) (suc n) q zero ln s lp e = let h = e x in grind arith
number_some key (x ∷ xs) (suc n) q (suc p) ln s lp e =
    let h = e x in
    let z = s 0 (suc p) x (omega arith) lp in
    let r = number_some key xs n q p (omega arith) (λ j k d lj lk r. let z = s (suc j) (suc k) d (omega arith) (omega arith) r in omega arith) (omega arith) e in
    grind arith

pub fresh_from : {N V : Type 0} (key : N → ℕ) (xs : List (Row N V)) (n q : ℕ) → n ≤ length xs → IsSingle key xs n → number_of key q (found xs n) ≡ None → (k : ℕ) (d : Row N V) → k < n → key (get_or xs k d).node ≡ q → ⊥
fresh_from key xs n q ln s none k d lk e =
    let some = number_some key xs n q k ln s lk (λ d'. let o = get_or_default xs k d' d (omega arith) in cc) in
    cc

-- a write of one value keeps all else
module _ {N V : Type 0} (xs : List (Row N V)) (i : ℕ) (v : V) (d₁ : Row N V) where
  abbrev zs : List (Row N V)
  zs = set xs i (valued (get_or xs i d₁) v)

  same_but_value : i < length xs → (k : ℕ) (d : Row N V) → ((get_or zs k d).node ≡ (get_or xs k d).node) × ((get_or zs k d).next ≡ (get_or xs k d).next) × ((get_or zs k d).head ≡ (get_or xs k d).head) × (length zs ≡ length xs)
  same_but_value li k d = grind (arith, common_steps)

  pub kept_valued : {key marks : N → ℕ} {n : ℕ} → i < n → IsRegister key marks xs n → IsRegister key marks zs n
  kept_valued {key} {marks} {n} l k =
      let li : i < length xs = omega arith in
      let bucket_same : (k : ℕ) (d : Row N V) → bucket marks zs d k ≡ bucket marks xs d k = λ k d. let s = same_but_value li k d in cc in
      record {
        fits = rw length-set k.fits;
        few = rw length-set k.few;
        linked = record {
          heads = λ r d lr. rw (bucket_same r d, (same_but_value li (bucket marks xs d r) d).2, bucket_same (get_or xs (bucket marks xs d r) d).head d) (k.linked.heads r d lr);
          nexts = λ r j d lr lj e. rw ((same_but_value li r d).1, bucket_same (get_or xs r d).next d, bucket_same r d) (k.linked.nexts r j d lr lj (cc (bucket_same j d, bucket_same r d)));
        };
        single = λ j h d lj lh e. let a = same_but_value li j d in let b = same_but_value li h d in k.single j h d lj lh (cc);
      }

  pub found_valued : {n : ℕ} → i < n → n ≤ length xs → (d : N × V) → found zs n ≡ set (found xs n) i ((get_or (found xs n) i d).0, v)
  unfolding found
  found_valued {n} l ln d =
      let q = found_at xs n i d₁ d ln l in
      rw (take-set-lt n xs i _ l, map-set) (cc)
