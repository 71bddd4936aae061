-- The words of a text, each as its bytes.
use Rattle.std.specs.Prelude.{◌≡◌, ℕ, Option, None, Result, List, [], ◌∷◌, ◌++◌, if◌then◌else◌, encode_utf8_all}
use Rattle.std.specs.Result.{result_ok}
use Rattle.std.specs.Char.{is_whitespace}
use Rattle.std.specs.Str.{chars}

-- a word, if it has characters
abbrev pub if_any : List ℕ → List (List ℕ)
if_any [] = []
if_any (c ∷ cs) = encode_utf8_all (c ∷ cs) ∷ []

-- the words of characters, where others of the first word went before
abbrev pub words_after : List ℕ → List ℕ → List (List ℕ)
words_after word [] = if_any word
words_after word (c ∷ cs) = if is_whitespace c then if_any word ++ words_after [] cs else words_after (word ++ c ∷ []) cs

-- what stands between white space
unfoldable pub words : List ℕ → List (List ℕ)
words text = words_after [] (chars text)

-- the value is what a word is parsed to, and none where it cannot be
abbrev pub IsParsed : {T E : Type 0} → (List ℕ → Result T E → Type 0) → List ℕ → Option T → Type 0
IsParsed {T} {E} gives word value = (r : Result T E) × gives word r × (value ≡ result_ok r)

-- the first word, if there is one, was taken off and read
abbrev pub TakesWord : {T : Type 0} → (List ℕ → Option T → Type 0) → List (List ℕ) → Option T → List (List ℕ) → Type 0
TakesWord reads [] value left = value ≡ None
TakesWord reads (word ∷ more) value left = reads word value × (left ≡ more)
