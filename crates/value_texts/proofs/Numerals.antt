-- A number that is read is the one that stands there, and what is written in decimal is read again.
use Rattle.std.proofs.Common.{◌≡◌, ℕ, zero, suc, lit<, ◌+◌, ◌^◌, ◌<◌, Bool, true, false, cond, List, [], ◌∷◌, ◌++◌, length, get_or, take, drop, Some, None, refl, sym, ap, subst, ◌∙◌, arith, rules}
use Rattle.std.specs.Prelude.{Result, Ok, Err, ◌&&◌, nat_lt}
use Rattle.std.specs.Result.{result_ok}
use Rattle.std.specs.Char.{is_ascii_digit}
use Rattle.std.specs.Fmt.{decimal}
use Rattle.std.specs.List.{list_all, prefix_len}
use Rattle.std.specs.Str.{IsAscii, IsUtf8}
use Rattle.std.specs.Str.Parse.{ParsesUnsigned, digits_value}
use Rattle.std.proofs.lemmas.Bool.Decides.{nat_tests}
use Rattle.std.proofs.lemmas.Fmt.{decimal_nonempty, first_decimal, digits_decimal, digits_value-decimal, decimal-digits_value, decimal_digit}
use Rattle.std.proofs.lemmas.List.{take_at, drop_at, take-append-drop}
use Rattle.std.proofs.lemmas.Str.{IsUtf8-from_ascii}
use Rattle.std.proofs.lemmas.Str.Parse.{IsNumeralModel, numerals_by_value, parse_digits}
use Rattle.value_texts.specs.Spelling.{BeginsWithNoDigit}
use Rattle.value_texts.specs.Reading.{has_leading_zero, natural_at, natural_below, numeral_of}
use Rattle.value_texts.proofs.Steps.{bind_some, bound, some_is, guarded, no_is, both}

pub digits_only : IsNumeralModel (λ ds. list_all is_ascii_digit ds ≡ true) (digits_value 10)
digits_only = numerals_by_value _ (search rules)

-- ---- digits in front

front_step : (p : ℕ → Bool) (x : ℕ) (xs : List ℕ) (b : Bool) → p x ≡ b → list_all p (take (prefix_len p xs) xs) ≡ true → list_all p (take (cond b (1 + prefix_len p xs) 0) (x ∷ xs)) ≡ true
front_step p x xs true e h =
    let one : 1 + prefix_len p xs ≡ suc (prefix_len p xs) = omega arith in
    rw (one, e, h) refl
front_step p x xs false e h = refl

pub front_all : (p : ℕ → Bool) (xs : List ℕ) → list_all p (take (prefix_len p xs) xs) ≡ true
front_all p [] = refl
front_all p (x ∷ xs) = front_step p x xs (p x) refl (front_all p xs)

pub front_is : (p : ℕ → Bool) (xs ys : List ℕ) → list_all p xs ≡ true → prefix_len p ys ≡ 0 → prefix_len p (xs ++ ys) ≡ length xs
front_is p [] ys all none = none
front_is p (x ∷ xs) ys all none =
    let h = both (p x) (list_all p xs) all in
    rw (h.0, front_is p xs ys h.1 none) (omega arith)

no_digit : (rest : List ℕ) → BeginsWithNoDigit rest → prefix_len is_ascii_digit rest ≡ 0
no_digit [] h = refl
no_digit (c ∷ rest) h = rw h refl

-- ---- numerals

numeral_tests : (led fits : Bool) (v n : ℕ) → cond led None (cond fits (Some v) None) ≡ Some n → (led ≡ false) × (fits ≡ true) × (v ≡ n)
numeral_tests true fits v n e = absurd cc
numeral_tests false true v n e = (refl, refl, some_is v n e)
numeral_tests false false v n e = absurd cc

not_led : (ds : List ℕ) → has_leading_zero ds ≡ false → 0 < length ds → get_or ds 0 0 ≡ 48 → length ds ≡ 1
not_led ds led some zero_first = grind (arith, nat_tests)

has_some : (ds : List ℕ) → (nat_lt 0 (length ds) && nat_lt (digits_value 10 ds) (2 ^ 64)) ≡ true → (0 < length ds) × (digits_value 10 ds < 2 ^ 64)
has_some ds h = grind (arith, nat_tests)

pub numeral_takes : (ds : List ℕ) (n : ℕ) → list_all is_ascii_digit ds ≡ true → numeral_of ds ≡ Some n → (ds ≡ decimal n) × (n < 2 ^ 64)
unfolding numeral_of
numeral_takes ds n digits e =
    let t = numeral_tests (has_leading_zero ds) (nat_lt 0 (length ds) && nat_lt (digits_value 10 ds) (2 ^ 64)) (digits_value 10 ds) n e in
    let some = has_some ds t.1 in
    let same : decimal (digits_value 10 ds) ≡ ds = decimal-digits_value digits_only ds digits some.0 (not_led ds t.0 some.0) some.1 in
    subst (λ (k : ℕ). (ds ≡ decimal k) × (k < 2 ^ 64)) t.2 (sym same, some.1)

never_led : (n : ℕ) → n < 2 ^ 64 → has_leading_zero (decimal n) ≡ false
never_led zero small = rw (decimal_digit 0 (omega arith)) refl
never_led (suc n) small =
    let first = first_decimal (suc n) (omega arith) small in
    grind (arith, nat_tests)

fits_again : (ds : List ℕ) → 0 < length ds → digits_value 10 ds < 2 ^ 64 → (nat_lt 0 (length ds) && nat_lt (digits_value 10 ds) (2 ^ 64)) ≡ true
fits_again ds some small = grind (arith, nat_tests)

numeral_of_tests : (ds : List ℕ) → has_leading_zero ds ≡ false → (nat_lt 0 (length ds) && nat_lt (digits_value 10 ds) (2 ^ 64)) ≡ true → numeral_of ds ≡ Some (digits_value 10 ds)
unfolding numeral_of
numeral_of_tests ds led fits =
    no_is (has_leading_zero ds) None (cond (nat_lt 0 (length ds) && nat_lt (digits_value 10 ds) (2 ^ 64)) (Some (digits_value 10 ds)) None) led
    ∙ ap (λ (b : Bool). cond b (Some (digits_value 10 ds)) None) fits

pub numeral_again : (n : ℕ) → n < 2 ^ 64 → numeral_of (decimal n) ≡ Some n
numeral_again n small =
    let value : digits_value 10 (decimal n) ≡ n = digits_value-decimal digits_only n small in
    numeral_of_tests (decimal n) (never_led n small) (fits_again (decimal n) (decimal_nonempty n small) (omega (arith, value, small))) ∙ ap Some value

pub natural_takes : (text : List ℕ) (x : ℕ × List ℕ) → natural_at text ≡ Some x → (text ≡ decimal x.0 ++ x.1) × (x.0 < 2 ^ 64)
unfolding natural_at
natural_takes text x e =
    let len = prefix_len is_ascii_digit text in
    let b = bind_some (numeral_of (take len text)) (λ n. Some (n, drop len text)) x e in
    let t = numeral_takes (take len text) b.0 (front_all is_ascii_digit text) b.1 in
    let parts : text ≡ decimal b.0 ++ drop len text = sym (take-append-drop len text) ∙ ap (λ (s : List ℕ). s ++ drop len text) t.0 in
    subst (λ (y : ℕ × List ℕ). (text ≡ decimal y.0 ++ y.1) × (y.0 < 2 ^ 64)) (some_is (b.0, drop len text) x b.2) (parts, t.1)

pub natural_again : (n : ℕ) (rest : List ℕ) → n < 2 ^ 64 → BeginsWithNoDigit rest → natural_at (decimal n ++ rest) ≡ Some (n, rest)
unfolding natural_at
natural_again n rest small ends =
    let text = decimal n ++ rest in
    let len : prefix_len is_ascii_digit text ≡ length (decimal n) = front_is is_ascii_digit (decimal n) rest (digits_decimal digits_only n small) (no_digit rest ends) in
    let front : take (prefix_len is_ascii_digit text) text ≡ decimal n = take_at (decimal n) rest (prefix_len is_ascii_digit text) (sym len) in
    let back : drop (prefix_len is_ascii_digit text) text ≡ rest = drop_at (decimal n) rest (prefix_len is_ascii_digit text) (sym len) in
    bound (numeral_of (take (prefix_len is_ascii_digit text) text)) (λ n. Some (n, drop (prefix_len is_ascii_digit text) text)) n (ap numeral_of front ∙ numeral_again n small)
    ∙ ap (λ (s : List ℕ). Some (n, s)) back

is_below : (n limit : ℕ) → nat_lt n limit ≡ true → n < limit
is_below n limit h = grind (arith, nat_tests)

below_is : (n limit : ℕ) → n < limit → nat_lt n limit ≡ true
below_is n limit h = grind (arith, nat_tests)

pub below_takes : (limit : ℕ) (text : List ℕ) (x : ℕ × List ℕ) → natural_below limit text ≡ Some x → (text ≡ decimal x.0 ++ x.1) × (x.0 < limit)
unfolding natural_below
below_takes limit text x e =
    let b = bind_some (natural_at text) (λ n. cond (nat_lt n.0 limit) (Some n) None) x e in
    let g = guarded (nat_lt b.0.0 limit) b.0 x b.2 in
    subst (λ (y : ℕ × List ℕ). (text ≡ decimal y.0 ++ y.1) × (y.0 < limit)) g.1 ((natural_takes text b.0 b.1).0, is_below b.0.0 limit g.0)

pub below_again : (limit n : ℕ) (rest : List ℕ) → n < limit → n < 2 ^ 64 → BeginsWithNoDigit rest → natural_below limit (decimal n ++ rest) ≡ Some (n, rest)
unfolding natural_below
below_again limit n rest lt small ends =
    bound (natural_at (decimal n ++ rest)) (λ n. cond (nat_lt n.0 limit) (Some n) None) (n, rest) (natural_again n rest small ends)
    ∙ ap (λ (b : Bool). cond b (Some (n, rest)) None) (below_is n limit lt)

-- ---- std's reader of numbers

no_bytes : (ds : List ℕ) → (0 < length ds → ⊥) → length ds ≡ 0
no_bytes [] none = refl
no_bytes (c ∷ ds) none = absurd (none (omega arith))

numeral_none : (ds : List ℕ) → (nat_lt 0 (length ds) && nat_lt (digits_value 10 ds) (2 ^ 64)) ≡ false → has_leading_zero ds ≡ false → numeral_of ds ≡ None
unfolding numeral_of
numeral_none ds fits led =
    no_is (has_leading_zero ds) None (cond (nat_lt 0 (length ds) && nat_lt (digits_value 10 ds) (2 ^ 64)) (Some (digits_value 10 ds)) None) led
    ∙ ap (λ (b : Bool). cond b (Some (digits_value 10 ds)) None) fits

fits_not : (ds : List ℕ) → (0 < length ds → digits_value 10 ds < 2 ^ 64 → ⊥) → (b : Bool) → (nat_lt 0 (length ds) && nat_lt (digits_value 10 ds) (2 ^ 64)) ≡ b → b ≡ false
fits_not ds apart true e = let h = has_some ds e in absurd (apart h.0 h.1)
fits_not ds apart false e = refl

pub read_numeral : {E : Type 0} (ds : List ℕ) (r : Result ℕ E) → ParsesUnsigned 64 10 ds r → list_all is_ascii_digit ds ≡ true → has_leading_zero ds ≡ false → result_ok r ≡ numeral_of ds
read_numeral {E} ds (Ok x) h digits led =
    let p = parse_digits digits_only {E = E} 64 ds (Ok x) h digits in
    ap Some p.1 ∙ sym (numeral_of_tests ds led (fits_again ds p.0.0 p.0.1))
read_numeral {E} ds (Err e) h digits led =
    let p = parse_digits digits_only {E = E} 64 ds (Err e) h digits in
    sym (numeral_none ds (fits_not ds (λ some small. p (some, small)) (nat_lt 0 (length ds) && nat_lt (digits_value 10 ds) (2 ^ 64)) refl) led)

pub led_is_none : (ds : List ℕ) → has_leading_zero ds ≡ true → numeral_of ds ≡ None
unfolding numeral_of
led_is_none ds led = ap (λ (b : Bool). cond b None (cond (nat_lt 0 (length ds) && nat_lt (digits_value 10 ds) (2 ^ 64)) (Some (digits_value 10 ds)) None)) led

digit_small : (c : ℕ) → is_ascii_digit c ≡ true → c < 128
digit_small c e = grind (arith, nat_tests)

digits_ascii : (ds : List ℕ) → list_all is_ascii_digit ds ≡ true → IsAscii ds
digits_ascii [] digits i = lit< tt
digits_ascii (c ∷ cs) digits zero = digit_small c (both (is_ascii_digit c) (list_all is_ascii_digit cs) digits).0
digits_ascii (c ∷ cs) digits (suc i) = digits_ascii cs (both (is_ascii_digit c) (list_all is_ascii_digit cs) digits).1 i

-- digits are UTF-8
pub digits_utf8 : (ds : List ℕ) → list_all is_ascii_digit ds ≡ true → IsUtf8 ds
digits_utf8 ds digits = IsUtf8-from_ascii ds (digits_ascii ds digits)
