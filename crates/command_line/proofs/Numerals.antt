-- What std's reader of numbers says of a text of at most 19 digits.
use Rattle.std.proofs.Common.{◌≡◌, ℕ, ◌<◌, ◌≤◌, Bool, true, false, List, [], ◌∷◌, length, Some, None, ap, refl, sym, ◌∙◌, arith, rules}
use Rattle.std.specs.Prelude.{Result, Ok, Err, ◌&&◌, nat_lt, nat_le, if◌then◌else◌}
use Rattle.std.specs.Result.{result_ok}
use Rattle.std.specs.Char.{is_ascii_digit}
use Rattle.std.specs.List.{list_all}
use Rattle.std.specs.Str.Parse.{ParsesUnsigned, digits_value}
use Rattle.std.proofs.lemmas.Bool.Decides.{nat_tests}
use Rattle.std.proofs.lemmas.Str.Parse.{IsNumeralModel, numerals_by_value, parse_digits, digits_value_short}
use Rattle.command_line.specs.Numbers.{number_of}

digits_only : IsNumeralModel (λ ds. list_all is_ascii_digit ds ≡ true) (digits_value 10)
digits_only = numerals_by_value _ (search rules)

-- the test of a number
abbrev test : List ℕ → Bool
test text = nat_lt 0 (length text) && nat_le (length text) 19 && list_all is_ascii_digit text

chosen : (text : List ℕ) (b : Bool) → test text ≡ b → number_of text ≡ (if b then Some (digits_value 10 text) else None)
chosen text b e = ap (λ (x : Bool). if x then Some (digits_value 10 text) else None) e

no_bytes : (text : List ℕ) → (0 < length text → ⊥) → length text ≡ 0
no_bytes [] none = refl
no_bytes (c ∷ cs) none = absurd (none (omega arith))

pub read_number : {E : Type 0} (text : List ℕ) (r : Result ℕ E) → ParsesUnsigned 64 10 text r → length text ≤ 19 → list_all is_ascii_digit text ≡ true → result_ok r ≡ number_of text
read_number {E} text (Ok x) h short digits =
    let p = parse_digits digits_only {E = E} 64 text (Ok x) h digits in
    let some : 0 < length text = p.0.0 in
    let tested : test text ≡ true = grind (arith, nat_tests) in
    ap Some p.1 ∙ sym (chosen text true tested)
read_number {E} text (Err e) h short digits =
    let p = parse_digits digits_only {E = E} 64 text (Err e) h digits in
    let small = digits_value_short digits_only text 19 digits short in
    let none : length text ≡ 0 = no_bytes text (λ some. p (some, omega (arith, small))) in
    let tested : test text ≡ false = grind (arith, nat_tests) in
    sym (chosen text false tested)
