-- The next line that comes off a text is the first of its lines. The library proves this too, but keeps it to itself: what it offers of `lines`
-- (`YieldsList-from_lines`) says what every run of `next` gives, and not what is left after one.
use Rattle.std.proofs.Common.{◌≡◌, ℕ, ◌+◌, ◌-◌, ◌<◌, ◌≤◌, false, cond, List, [], ◌∷◌, ◌++◌, length, get_or, take, drop, take-append-drop, length-drop, refl, sym, ◌∙◌, ap, subst, arith, inl, inr, Some, None, Option, Bor}
use Rattle.std.specs.Prelude.{◌==◌, encode_utf8}
use Rattle.std.specs.List.{All, slice_split}
use Rattle.std.specs.Iterator.{MakesProgress}
use Rattle.std.specs.Str.Iter.{lines_rest, lines_steps}
use Rattle.std.specs.Str.Lines.{IsFirstLine, StripsCarriageReturn, lines, lines_of_parts, strip_carriage_return}
use Rattle.std.specs.declared.str.Lines.{Lines}
use Rattle.std.proofs.iter.runs.Bytes.{all, Other, lacks}
use Rattle.std.proofs.lemmas.Bool.{cases_lt, eqb-true, eq-eqb, ne_eqb}
use Rattle.std.proofs.lemmas.Grind.{common_steps}
use Rattle.std.proofs.lemmas.List.{nil_from_length}
use Rattle.std.proofs.lemmas.List.Elements.{All-nil, All-cons}
use Rattle.std.proofs.lemmas.List.Splits.{slice_split_none, slice_split_at, length-slice_split}
use Rattle.std.proofs.lemmas.Str.{encode_ascii}
use Rattle.map.specs.Lines.{LinesLeft, TakesLine, lines_count}

no_newline : (bs : List ℕ) → all (Other 10) bs → All (λ b. (b == 10) ≡ false) bs
no_newline [] h = All-nil (λ b. (b == 10) ≡ false)
no_newline (b ∷ bs) h = All-cons (λ x. (x == 10) ≡ false) b bs (ne_eqb b 10 h.0) (no_newline bs h.1)

stripped : (l x : List ℕ) → StripsCarriageReturn l x → strip_carriage_return l ≡ x
stripped [] x (inl h) = sym h.0
stripped (b ∷ l) x (inl h) = ap (λ t. cond t (take (length (b ∷ l) - 1) (b ∷ l)) (b ∷ l)) (ne_eqb _ 13 (h.1 (omega arith))) ∙ sym h.0
stripped l x (inr e) =
    let last : get_or l (length l - 1) 0 ≡ 13 = grind (arith, common_steps) in
    let front : take (length l - 1) l ≡ x = grind (arith, common_steps) in
    ap (λ t. cond t (take (length l - 1) l) l) (eq-eqb _ 13 last) ∙ front

before_more : (x : List ℕ) (parts : List (List ℕ)) → 0 < length parts → lines_of_parts (x ∷ parts) ≡ strip_carriage_return x ∷ lines_of_parts parts
before_more x [] l = absurd (omega arith)
before_more x (y ∷ more) l = refl

first_line : (w x rest : List ℕ) → 0 < length w → IsFirstLine w x rest → lines w ≡ x ∷ lines rest
first_line w x rest some h =
    let n : ℕ = h.0 in
    let p = λ (b : ℕ). b == 10 in
    let front : All (λ b. (b == 10) ≡ false) (take n w) = no_newline (take n w) (lacks 10 (omega arith) (take n w) h.1) in
    elim (cases_lt n (length w)) [
      | inl l ↦
          let o = h.2 (omega (arith, length-drop n w)) in
          let after : drop n w ≡ 10 ∷ rest = o.2 ∙ ap (λ c. encode_utf8 c ++ rest) (eqb-true o.0 10 o.1) ∙ ap (λ v. v ++ rest) (encode_ascii 10 (omega arith)) in
          ap lines (sym (take-append-drop n w) ∙ ap (λ v. take n w ++ v) after) ∙ ap lines_of_parts (slice_split_at p (take n w) 10 rest front refl)
          ∙ before_more (take n w) (slice_split p rest) (omega (arith, length-slice_split p rest)) ∙ ap (λ v. v ∷ lines rest) (stripped (take n w) x (h.5 l))
      | inr l ↦
          let whole : take n w ≡ w = grind (arith, common_steps) in
          let none : rest ≡ [] = nil_from_length rest (let fits : n + length rest ≤ length w = h.3 in omega arith) in
          ap lines_of_parts (slice_split_none p w (subst (All (λ b. (b == 10) ≡ false)) whole front)) ∙ ap (λ t. cond t [] (w ∷ [])) (ne_eqb (length w) 0 (λ z. omega arith))
          ∙ (λ i. sym (h.4 (omega (arith, h.3))) i ∷ lines (sym none i))
    ]

-- so the lines that are left are the next one and those after it
pub next_line : (s t : Lines) (x : Bor (List ℕ)) → lines_steps s (Some x) t → lines (lines_rest s) ≡ x.now ∷ lines (lines_rest t)
next_line s t x step = first_line (lines_rest s) x.now (lines_rest t) step.0.0 step.0.2

pub no_line : (s t : Lines) → lines_steps s None t → lines (lines_rest s) ≡ []
no_line s t step = ap lines (nil_from_length (lines_rest s) step.0.0)

pub fewer_lines : (old now : LinesLeft) (r : Option (ℕ × Bor (List ℕ))) → TakesLine old r now → MakesProgress (λ _. Unit {0}) lines_count old r now
fewer_lines old now None step = record { on = λ _. tt; keeps = tt; rests = λ _. tt }
fewer_lines old now (Some x) step = record { on = λ _. (tt, tt, omega (arith, ap length step.0)); keeps = tt; rests = λ _. tt }
