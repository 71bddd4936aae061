-- The next word that comes off a text is the first of its words.
use Rattle.std.proofs.Common.{◌≡◌, ℕ, ◌<◌, true, List, [], ◌∷◌, ◌++◌, length, refl, sym, ◌∙◌, ap, append_assoc, append-nil, length-append, arith, Some, None, Option, MatchOption, Bor}
use Rattle.std.specs.Prelude.{encode_utf8, encode_utf8_all}
use Rattle.std.specs.Char.{is_whitespace, is_not_whitespace}
use Rattle.std.specs.Str.{IsUtf8, NonePass, EmptyOrStartsWithPassing, all_scalars}
use Rattle.std.specs.Str.Iter.{split_whitespace_rest, split_whitespace_steps}
use Rattle.std.specs.Iterator.{YieldsFirstBy, MakesProgress, item_count}
use Rattle.std.specs.declared.str.SplitWhitespace.{SplitWhitespace}
use Rattle.std.proofs.lemmas.Str.{cons_from_encodes, encode_same, chars_from_encodes, length-encode, len_utf8_bounds}
use Rattle.map.specs.Words.{if_any, words_after, words}

-- characters that begin with the bytes of others begin with these
begin_with : (front cs rest : List ℕ) → encode_utf8_all cs ≡ encode_utf8_all front ++ rest → (es : List ℕ) × (cs ≡ front ++ es) × (encode_utf8_all es ≡ rest)
begin_with [] cs rest e = (cs, refl, e)
begin_with (c ∷ front) cs rest e =
    let h = cons_from_encodes cs (encode_utf8_all front ++ rest) c (e ∙ append_assoc (encode_utf8 c) (encode_utf8_all front) rest) in
    let k = begin_with front h.0 rest h.2 in
    (k.0, h.1 ∙ ap (λ xs. c ∷ xs) k.1, k.2)

scalars_left : (front es : List ℕ) → all_scalars (front ++ es) ≡ true → all_scalars es ≡ true
scalars_left [] es e = e
scalars_left (c ∷ front) es e = grind (arith, scalars_left front es)

-- white space is passed over
passed_over : (gap cs : List ℕ) → NonePass is_not_whitespace gap → words_after [] (gap ++ cs) ≡ words_after [] cs
passed_over [] cs none = refl
passed_over (c ∷ gap) cs none = grind (arith, passed_over gap cs)

-- and a word is gathered
gathered : (word more cs : List ℕ) → NonePass is_whitespace more → words_after word (more ++ cs) ≡ words_after (word ++ more) cs
gathered word [] cs none = ap (λ w. words_after w cs) (sym (append-nil word))
gathered word (c ∷ more) cs none = grind (arith, append_assoc, gathered (word ++ c ∷ []) more cs)

-- up to the next white space
ended : (word es bs more : List ℕ) → encode_utf8_all es ≡ bs → EmptyOrStartsWithPassing is_whitespace bs more → words_after word es ≡ if_any word ++ words_after [] es
ended word [] bs more e starts = sym (append-nil (if_any word))
ended word (c ∷ es) bs more e starts =
    let some : 0 < length bs = omega (arith, ap length e, length-append (encode_utf8 c) (encode_utf8_all es), length-encode c, (len_utf8_bounds c).0) in
    let h = starts some in
    let same = (encode_same c h.0 (encode_utf8_all es) more (e ∙ h.2)).0 in
    rw (same, h.1) refl

-- a word has characters
some_word : (word : List ℕ) → 0 < length (encode_utf8_all word) → if_any word ≡ encode_utf8_all word ∷ []
some_word word h = grind arith

-- the words of a text that is written out
written : (cs bs : List ℕ) → IsUtf8 bs → encode_utf8_all cs ≡ bs → words bs ≡ words_after [] cs
unfolding words
written cs bs utf8 e = rw (chars_from_encodes cs bs utf8 e) refl

-- what is left after a word is a text too
next_word : (s t : SplitWhitespace) (r : Option (Bor (List ℕ))) → IsUtf8 (split_whitespace_rest s) → split_whitespace_steps s r t → MatchOption r (words (split_whitespace_rest s) ≡ []) (λ x. (words (split_whitespace_rest s) ≡ x.now ∷ words (split_whitespace_rest t)) × IsUtf8 (split_whitespace_rest t))
next_word s t None utf8 step =
    let gap = step.1.0 in
    written gap (split_whitespace_rest s) utf8 step.1.1 ∙ ap (λ xs. words_after [] xs) (sym (append-nil gap)) ∙ passed_over gap [] step.1.2
next_word s t (Some x) utf8 step =
    let gap = step.3.0 in
    let word = step.4.0 in
    let rest = split_whitespace_rest t in
    let h = begin_with gap utf8.0 (x.now ++ rest) (utf8.1.1 ∙ step.1 ∙ ap (λ b. b ++ (x.now ++ rest)) (sym step.3.1)) in
    let k = begin_with word h.0 rest (h.2 ∙ ap (λ b. b ++ rest) (sym step.4.1)) in
    let scalars_after = scalars_left gap h.0 (ap all_scalars (sym h.1) ∙ utf8.1.0) in
    let left : IsUtf8 rest = (k.0, (scalars_left word k.0 (ap all_scalars (sym k.1) ∙ scalars_after), k.2)) in
    let some : 0 < length (encode_utf8_all word) = omega (arith, ap length step.4.1, step.2) in (
      written utf8.0 (split_whitespace_rest s) utf8 utf8.1.1 ∙ ap (λ xs. words_after [] xs) h.1 ∙ passed_over gap h.0 step.3.2
          ∙ ap (λ xs. words_after [] xs) k.1 ∙ gathered [] word k.0 step.4.2 ∙ ended word k.0 rest step.5.0 k.2 step.5.1
          ∙ ap (λ ws. ws ++ words_after [] k.0) (some_word word some) ∙ ap (λ b. b ∷ words_after [] k.0) step.4.1
          ∙ ap (λ ws. x.now ∷ ws) (sym (written k.0 rest left k.2)),
      left,
    )

-- so an iterator over words gives the words, and keeps a text
pub gives_word : (s t : SplitWhitespace) (r : Option (Bor (List ℕ))) → IsUtf8 (split_whitespace_rest s) → split_whitespace_steps s r t → YieldsFirstBy {B = List ℕ} (λ word. word.now) (λ ws. ws) (words (split_whitespace_rest s)) r (words (split_whitespace_rest t))
gives_word s t None utf8 step = let e = next_word s t None utf8 step in (e, ap (λ k. words (split_whitespace_rest k)) step.0 ∙ e)
gives_word s t (Some x) utf8 step = (next_word s t (Some x) utf8 step).0

pub keeps_text : (s t : SplitWhitespace) (r : Option (Bor (List ℕ))) → IsUtf8 (split_whitespace_rest s) → split_whitespace_steps s r t → IsUtf8 (split_whitespace_rest t)
keeps_text s t None utf8 step = rw step.0 utf8
keeps_text s t (Some x) utf8 step = (next_word s t (Some x) utf8 step).1

pub fewer_left : (ws vs : List (List ℕ)) (r : Option (Bor (List ℕ))) → YieldsFirstBy {B = List ℕ} (λ word. word.now) (λ ws. ws) ws r vs → MakesProgress (λ _. Unit {0}) (item_count (λ ws. ws)) ws r vs
fewer_left ws vs None step = record { on = λ _. tt; keeps = tt; rests = λ _. tt }
fewer_left ws vs (Some x) step = record { on = λ _. (tt, tt, omega (arith, ap length step)); keeps = tt; rests = λ _. tt }
