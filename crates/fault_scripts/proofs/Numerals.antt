-- What std's reader of numbers says of a word of at most 19 digits.
use Rattle.std.proofs.Common.{◌≡◌, ℕ, zero, suc, lit<, ◌<◌, ◌≤◌, Bool, true, false, List, [], ◌∷◌, length, Some, None, ap, refl, sym, ◌∙◌, arith, rules}
use Rattle.std.specs.Prelude.{Result, Ok, Err, ◌&&◌, nat_lt, nat_le, if◌then◌else◌}
use Rattle.std.specs.Result.{result_ok}
use Rattle.std.specs.Char.{is_ascii_digit}
use Rattle.std.specs.List.{list_all}
use Rattle.std.specs.Str.{IsAscii, IsUtf8}
use Rattle.std.specs.Str.Parse.{ParsesUnsigned, digits_value}
use Rattle.std.proofs.lemmas.Bool.Decides.{nat_tests}
use Rattle.std.proofs.lemmas.Str.{IsUtf8-from_ascii}
use Rattle.std.proofs.lemmas.Str.Parse.{IsNumeralModel, numerals_by_value, parse_digits, digits_value_short}
use Rattle.fault_scripts.specs.Words.{number_of}

digits_only : IsNumeralModel (λ ds. list_all is_ascii_digit ds ≡ true) (digits_value 10)
digits_only = numerals_by_value _ (search rules)

-- the test of a number
abbrev test : List ℕ → Bool
test word = nat_lt 0 (length word) && nat_le (length word) 19 && list_all is_ascii_digit word

chosen : (word : List ℕ) (b : Bool) → test word ≡ b → number_of word ≡ (if b then Some (digits_value 10 word) else None)
unfolding number_of
chosen word b e = ap (λ (x : Bool). if x then Some (digits_value 10 word) else None) e

no_bytes : (word : List ℕ) → (0 < length word → ⊥) → length word ≡ 0
no_bytes [] none = refl
no_bytes (c ∷ cs) none = absurd (none (omega arith))

pub read_number : {E : Type 0} (word : List ℕ) (r : Result ℕ E) → ParsesUnsigned 64 10 word r → length word ≤ 19 → list_all is_ascii_digit word ≡ true → result_ok r ≡ number_of word
read_number {E} word (Ok x) h short digits =
    let p = parse_digits digits_only {E = E} 64 word (Ok x) h digits in
    let some : 0 < length word = p.0.0 in
    let tested : test word ≡ true = grind (arith, nat_tests) in
    ap Some p.1 ∙ sym (chosen word true tested)
read_number {E} word (Err e) h short digits =
    let p = parse_digits digits_only {E = E} 64 word (Err e) h digits in
    let small = digits_value_short digits_only word 19 digits short in
    let none : length word ≡ 0 = no_bytes word (λ some. p (some, omega (arith, small))) in
    let tested : test word ≡ false = grind (arith, nat_tests) in
    sym (chosen word false tested)

-- a word that is too long is no number
pub long : (word : List ℕ) → 19 < length word → number_of word ≡ None
long word over =
    let tested : test word ≡ false = grind (arith, nat_tests) in
    chosen word false tested

-- nor is one with another byte than a digit
pub mixed : (word : List ℕ) → list_all is_ascii_digit word ≡ false → number_of word ≡ None
mixed word other =
    let tested : test word ≡ false = grind (arith, nat_tests) in
    chosen word false tested

both : (a b : Bool) → (a && b) ≡ true → (a ≡ true) × (b ≡ true)
both true true e = (refl, refl)
both true false e = absurd (cc)
both false b e = absurd (cc)

digit_small : (c : ℕ) → is_ascii_digit c ≡ true → c < 128
digit_small c e = grind (arith, nat_tests)

digits_ascii : (word : List ℕ) → list_all is_ascii_digit word ≡ true → IsAscii word
digits_ascii [] digits i = lit< tt
digits_ascii (c ∷ cs) digits zero = digit_small c (both (is_ascii_digit c) (list_all is_ascii_digit cs) digits).0
digits_ascii (c ∷ cs) digits (suc i) = digits_ascii cs (both (is_ascii_digit c) (list_all is_ascii_digit cs) digits).1 i

-- digits are UTF-8
pub digits_utf8 : (word : List ℕ) → list_all is_ascii_digit word ≡ true → IsUtf8 word
digits_utf8 word digits = IsUtf8-from_ascii word (digits_ascii word digits)
