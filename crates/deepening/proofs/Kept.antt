-- What is kept of the tries of a path.
use Rattle.std.proofs.Common.{◌≡◌, ℕ, zero, suc, ◌≤◌, List, [], ◌∷◌, length, take, set, refl, ap, arith}
use Rattle.deepening.specs.declared.tries.Tried.{Tried}
use Rattle.deepening.specs.Views.{left_of}
use Rattle.deepening.specs.Lefts.{lefts}

pub lefts_length : (ts : List Tried) (n : ℕ) → n ≤ length ts → length (lefts ts n) ≡ n
unfolding lefts
lefts_length ts zero l = refl
lefts_length [] (suc n) l = absurd (omega arith)
lefts_length (t ∷ ts) (suc n) l = ap suc (lefts_length ts n (omega arith))

pub lefts_set : (ts : List Tried) (n i : ℕ) (t : Tried) → lefts (set ts i t) n ≡ set (lefts ts n) i (left_of t)
unfolding lefts
lefts_set ts zero i t = refl
lefts_set [] (suc n) i t = refl
lefts_set (u ∷ ts) (suc n) zero t = refl
lefts_set (u ∷ ts) (suc n) (suc i) t = ap (λ ls. left_of u ∷ ls) (lefts_set ts n i t)

pub lefts_less : (ts : List Tried) (n m : ℕ) → m ≤ n → lefts ts m ≡ take m (lefts ts n)
unfolding lefts
lefts_less ts n zero l = refl
lefts_less ts zero (suc m) l = absurd (omega arith)
lefts_less [] (suc n) (suc m) l = refl
lefts_less (t ∷ ts) (suc n) (suc m) l = ap (λ ls. left_of t ∷ ls) (lefts_less ts n m (omega arith))
