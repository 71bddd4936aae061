-- What the words of a line say, by how they come off.
use Rattle.std.proofs.Common.{◌≡◌, ℕ, nat_lt, Bool, true, false, List, [], ◌∷◌, length, refl, sym, ◌∙◌, ap, arith, Some, None, Option, Result, Ok, Err}
use Rattle.std.specs.Prelude.{◌==◌, if◌then◌else◌, is_some, slice_get, option_and_then}
use Rattle.std.specs.List.{list_any}
use Rattle.std.specs.Result.{result_ok}
use Rattle.std.specs.Str.{all_ascii_digits}
use Rattle.std.specs.Str.Parse.{ParsesUnsigned, ExplainsUnsignedError, HasUnsignedDigitsIfOk, digits_value, without_leading_plus}
use Rattle.std.specs.declared.num.ParseIntError.{ParseIntError}
use Rattle.std.proofs.lemmas.Bool.Decides.{nat_tests}
use Rattle.std.proofs.lemmas.Str.Parse.{IsNumeralModel, numerals_by_value, tells_all_ascii_digits}
use Rattle.std.proofs.Math.Bool.{beq}
use Rattle.map.specs.Words.{TakesWord}
use Rattle.map.specs.Headers.{number_of, number_at, zone_from}

-- the zone of a sign with this byte, before these signs
abbrev zone_by : Option ℕ → List ℕ → Option ℕ
zone_by byte signs = option_and_then (λ zone. if length signs == 0 then Some zone else None) (zone_from byte)

-- none where the byte is 64 or more, and none where signs come after it
pub no_zone_above : (o : Option ℕ) (byte : ℕ) (signs : List ℕ) → Some byte ≡ o → nat_lt byte 64 ≡ false → None ≡ zone_by o signs
no_zone_above o byte signs b h = grind (arith, nat_tests)

pub no_zone_before : (o : Option ℕ) (byte : ℕ) (signs : List ℕ) → Some byte ≡ o → is_some (slice_get signs 0) ≡ true → None ≡ zone_by o signs
no_zone_before o byte [] b m = cc
no_zone_before o byte (sign ∷ signs) b m = grind (arith, nat_tests)

pub one_zone : (o : Option ℕ) (byte : ℕ) (signs : List ℕ) → Some byte ≡ o → nat_lt byte 64 ≡ true → is_some (slice_get signs 0) ≡ false → Some byte ≡ zone_by o signs
one_zone o byte [] b h m = grind (arith, nat_tests)
one_zone o byte (sign ∷ signs) b h m = cc

-- numbers
digits : IsNumeralModel (λ ds. all_ascii_digits ds ≡ true) (digits_value 10)
digits = numerals_by_value _ tells_all_ascii_digits

number_read : {E : Type 0} (bits : ℕ) (word : List ℕ) (r : Result ℕ E) → ParsesUnsigned bits 10 word r → result_ok r ≡ number_of bits word
number_read bits word (Ok n) h = grind (arith, nat_tests, digits.from (without_leading_plus word))
number_read bits word (Err e) h = grind (arith, nat_tests, digits.to (without_leading_plus word))

-- how `number` reads a word
abbrev reads : ℕ → List ℕ → Option ℕ → Type 0
reads bits word v = (r : Result ℕ ParseIntError) × (ParsesUnsigned bits 10 word r × ExplainsUnsignedError 10 word r × HasUnsignedDigitsIfOk word r) × (v ≡ result_ok r)

one_read : (bits : ℕ) (word : List ℕ) (v : Option ℕ) → reads bits word v → v ≡ number_of bits word
one_read bits word v t = t.2 ∙ number_read bits word t.0 t.1.0

-- the first word's number
pub first : (bits : ℕ) (ws left : List (List ℕ)) (v : Option ℕ) → TakesWord (reads bits) ws v left → v ≡ number_at bits 0 ws
first bits [] left v t = t
first bits (w ∷ ws) left v t = one_read bits w v t.0

-- and the words behind it
pub behind : (bits : ℕ) (ws left : List (List ℕ)) (a : ℕ) → TakesWord (reads bits) ws (Some a) left → (w : List ℕ) × (ws ≡ w ∷ left) × (Some a ≡ number_of bits w)
behind bits [] left a t = cc
behind bits (w ∷ ws) left a t = (w, ap (λ xs. w ∷ xs) (sym t.1), one_read bits w (Some a) t.0)

-- zones, of which one is asked for
pub is_asked : (zones : List Bool) → list_any (λ zone. beq zone true) zones ≡ list_any (λ zone. zone) zones
is_asked [] = refl
is_asked (zone ∷ zones) = grind (arith, is_asked zones)
