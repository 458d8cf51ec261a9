-- The one spelling of each value in the text of a history (docs/FORMATS.md, Histories).
use Rattle.std.specs.Prelude.{ℕ, Bool, ◌+◌, ◌/◌, ◌%◌, ◌==◌, ◌&&◌, ◌||◌, nat_lt, nat_le, List, [], ◌∷◌, ◌++◌, codes, false, not, ◌≡◌, if◌then◌else◌}
use Rattle.std.specs.Char.{is_ascii_digit}
use Rattle.std.specs.Fmt.{decimal, signed_decimal}
use Rattle.std.specs.List.{flat_map}
use Rattle.value_core.specs.Datum.{Datum, Data}
use Rattle.value_core.specs.Datum as datum

-- a hexadecimal digit, in lower case
abbrev pub hex_digit : ℕ → ℕ
hex_digit n = if nat_lt n 10 then 48 + n else 87 + n

-- a character that stands for itself: one of codes 32 to 126 that is neither the backslash nor the quote
abbrev pub is_plain : ℕ → Bool
is_plain c = nat_le 32 c && nat_le c 126 && not (c == 92) && not (c == 34)

-- a character of a string: `\n`, `\t`, `\\` and `\"`, any other outside 32 to 126 by its code, and else itself
unfoldable pub escaped : ℕ → List ℕ
escaped c =
    if c == 10 then 92 ∷ 110 ∷ []
    else (if c == 9 then 92 ∷ 116 ∷ []
    else (if c == 92 || c == 34 then 92 ∷ c ∷ []
    else (if is_plain c then c ∷ []
    else 92 ∷ 120 ∷ hex_digit (c / 16) ∷ hex_digit (c % 16) ∷ [])))

-- An integer in decimal, without leading zeros; `true`, `false`; a char as `c` and its code, and an enumeration's value as `e` and
-- its number; a string in quotes; an array in `[ ]`, a record in `( )`, a set in `{ }`, a bag in `< >`; and an object as `o`, its
-- process, a point and its number.
abbrev mutual
  pub value_text : Datum → List ℕ
  value_text (datum.int z) = signed_decimal z
  value_text (datum.truth b) = if b then codes "true" else codes "false"
  value_text (datum.char c) = 99 ∷ decimal c
  value_text (datum.enumerated n) = 101 ∷ decimal n
  value_text (datum.text t) = 34 ∷ (flat_map escaped t ++ 34 ∷ [])
  value_text (datum.array w) = 91 ∷ (parts_text w ++ 93 ∷ [])
  value_text (datum.fields w) = 40 ∷ (parts_text w ++ 41 ∷ [])
  value_text (datum.set w) = 123 ∷ (parts_text w ++ 125 ∷ [])
  value_text (datum.bag w) = 60 ∷ (parts_text w ++ 62 ∷ [])
  value_text (datum.object p n) = 111 ∷ (decimal p ++ 46 ∷ decimal n)

  -- the parts, with one space between two
  pub parts_text : Data → List ℕ
  parts_text datum.none = []
  parts_text (datum.more v w) = value_text v ++ more_text w

  -- parts behind others, each with a space in front
  pub more_text : Data → List ℕ
  more_text datum.none = []
  more_text (datum.more v w) = 32 ∷ (value_text v ++ more_text w)

-- a text that doesn't go on with a digit, so that a number in front of it ends there
abbrev pub BeginsWithNoDigit : List ℕ → Type 0
BeginsWithNoDigit [] = Unit {0}
BeginsWithNoDigit (c ∷ text) = is_ascii_digit c ≡ false
