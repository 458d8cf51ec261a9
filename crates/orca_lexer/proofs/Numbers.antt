-- The value of a numeral, one digit on.
use Rattle.std.proofs.Common.{◌≡◌, ℕ, zero, suc, ◌-◌, ◌*◌, get_or, ◌+◌, ◌<◌, ◌≤◌, true, List, [], ◌∷◌, length, take, ap, ◌∙◌, arith, pos, to_z, w64}
use Rattle.std.specs.Prelude.{◌^◌}
use Rattle.std.proofs.lemmas.Int.{ints}
use Rattle.std.specs.List.{list_all}
use Rattle.std.specs.Char.{is_ascii_digit, digit_value}
use Rattle.std.specs.Str.Parse.{digits_value}
use Rattle.std.proofs.lemmas.Bool.{and_parts, and_from}
use Rattle.std.proofs.lemmas.Bool.Decides.{nat_tests}
use Rattle.std.proofs.lemmas.Int.Digits.{digits_value_more}
use Rattle.orca_lexer.specs.Shapes.{is_numeral}

pub numeral_digits : (word : List ℕ) (i : ℕ) → is_numeral word ≡ true → i < length word → (48 ≤ get_or word i 0) × (get_or word i 0 ≤ 57)
numeral_digits [] i n lt = absurd cc
numeral_digits (c ∷ cs) i n lt = at (c ∷ cs) i (and_from (is_ascii_digit c) (list_all is_ascii_digit cs) parts.0 parts.1) lt
  where
    parts : (is_ascii_digit c ≡ true) × (list_all is_ascii_digit cs ≡ true)
    parts = and_parts (is_ascii_digit c) (list_all is_ascii_digit cs) n

    at : (ds : List ℕ) (i : ℕ) → list_all is_ascii_digit ds ≡ true → i < length ds → (48 ≤ get_or ds i 0) × (get_or ds i 0 ≤ 57)
    at [] i all lt = absurd (omega arith)
    at (d ∷ ds) zero all lt =
        let t = (and_parts (is_ascii_digit d) (list_all is_ascii_digit ds) all).0 in
        (grind (arith, nat_tests), grind (arith, nat_tests))
    at (d ∷ ds) (suc i) all lt = at ds i (and_parts (is_ascii_digit d) (list_all is_ascii_digit ds) all).1 (omega arith)

digit_is : (c : ℕ) → 48 ≤ c → c ≤ 57 → digit_value c ≡ c - 48
digit_is c lo hi = grind (arith, nat_tests)

pub numeral_more : (word : List ℕ) (i : ℕ) → is_numeral word ≡ true → i < length word → digits_value 10 (take (i + 1) word) ≡ digits_value 10 (take i word) * 10 + (get_or word i 0 - 48)
numeral_more word i n lt =
    let d = numeral_digits word i n lt in
    digits_value_more 10 word i lt ∙ ap (λ x. digits_value 10 (take i word) * 10 + x) (digit_is (get_or word i 0) d.0 d.1)

-- a number below 2^63 keeps its value in an `i64`
pub small : (n : ℕ) → n < 2 ^ 63 → to_z w64 n ≡ pos n
small n below = grind (arith, ints)
