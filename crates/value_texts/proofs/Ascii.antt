-- Texts of values are ASCII.
use Rattle.std.proofs.Common.{◌≡◌, ℕ, ℤ, pos, negsuc, suc, ◌/◌, ◌%◌, ◌^◌, ◌<◌, ◌≤◌, Bool, true, false, cond, eqb, List, [], ◌∷◌, ◌++◌, refl, sym, subst, arith}
use Rattle.std.specs.Prelude.{◌||◌, FitsSigned, codes, nat_lt}
use Rattle.std.specs.Fmt.{decimal, signed_decimal}
use Rattle.std.specs.Int.{w64}
use Rattle.std.specs.List.{AllByRecursion, flat_map, list_all}
use Rattle.std.specs.Str.{IsAscii}
use Rattle.std.proofs.lemmas.Bool.Decides.{nat_tests}
use Rattle.std.proofs.lemmas.Fmt.{IsAscii-decimal}
use Rattle.std.proofs.lemmas.List.Concat.{flat_map-cons}
use Rattle.std.proofs.lemmas.List.Elements.{recursion_from_All}
use Rattle.std.proofs.lemmas.Str.{IsAscii-append}
use Rattle.std.proofs.lemmas.Str.Ascii.{IsAscii-cons, IsAscii-nil}
use Rattle.value_core.specs.Datum.{Datum, Data}
use Rattle.value_core.specs.Datum as datum
use Rattle.value_core.specs.Sound.{AreWellFormed, IsCode, IsWellFormed}
use Rattle.value_texts.specs.Spelling.{escaped, hex_digit, is_plain, more_text, parts_text, value_text}
use Rattle.value_texts.proofs.Steps.{both}

-- one byte more in front, and one behind
in_front : (b : ℕ) (text : List ℕ) → b < 128 → IsAscii text → IsAscii (b ∷ text)
in_front b text small h = IsAscii-cons b text small h

around : (opens : ℕ) (text : List ℕ) (closes : ℕ) → opens < 128 → closes < 128 → IsAscii text → IsAscii (opens ∷ (text ++ closes ∷ []))
around opens text closes small low h = in_front opens (text ++ closes ∷ []) small (IsAscii-append text (closes ∷ []) h (in_front closes [] low IsAscii-nil))

-- bytes that are tested one by one
abbrev pub is_low : ℕ → Bool
is_low c = nat_lt c 128

low : (c : ℕ) → is_low c ≡ true → c < 128
low c h = grind (arith, nat_tests)

pub word_ascii : (word : List ℕ) → list_all is_low word ≡ true → IsAscii word
word_ascii [] all = IsAscii-nil
word_ascii (c ∷ word) all =
    let h = both (is_low c) (list_all is_low word) all in
    in_front c word (low c h.0) (word_ascii word h.1)

pub signed_ascii : (z : ℤ) → FitsSigned w64 z → IsAscii (signed_decimal z)
signed_ascii (pos n) fits = IsAscii-decimal n (omega (arith, fits.sfits))
signed_ascii (negsuc n) fits = in_front 45 (decimal (suc n)) (omega arith) (IsAscii-decimal (suc n) (omega (arith, fits.sfits)))

-- ---- strings

by_test : (b : Bool) (x y : List ℕ) → IsAscii x → IsAscii y → IsAscii (cond b x y)
by_test true x y p q = p
by_test false x y p q = q

two : (b c : ℕ) → b < 128 → c < 128 → IsAscii (b ∷ c ∷ [])
two b c small low = in_front b (c ∷ []) small (in_front c [] low IsAscii-nil)

hex_small : (n : ℕ) → n < 16 → hex_digit n < 128
hex_small n lt = grind (arith, nat_tests)

escaped_ascii : (c : ℕ) → c ≤ 127 → IsAscii (escaped c)
unfolding escaped
escaped_ascii c le =
    let small : c < 128 = omega (arith, le) in
    let high : c / 16 < 16 = omega (arith, le) in
    let low : c % 16 < 16 = omega arith in
    let coded : IsAscii (92 ∷ 120 ∷ hex_digit (c / 16) ∷ hex_digit (c % 16) ∷ []) =
    in_front 92 (120 ∷ hex_digit (c / 16) ∷ hex_digit (c % 16) ∷ []) (omega arith) (
    in_front 120 (hex_digit (c / 16) ∷ hex_digit (c % 16) ∷ []) (omega arith) (two (hex_digit (c / 16)) (hex_digit (c % 16)) (hex_small (c / 16) high) (hex_small (c % 16) low))) in
    by_test (eqb c 10) _ _ (two 92 110 (omega arith) (omega arith)) (
    by_test (eqb c 9) _ _ (two 92 116 (omega arith) (omega arith)) (
    by_test (eqb c 92 || eqb c 34) _ _ (two 92 c (omega arith) small) (
    by_test (is_plain c) _ _ (in_front c [] small IsAscii-nil) coded)))

string_ascii : (t : List ℕ) → AllByRecursion IsCode t → IsAscii (flat_map escaped t)
string_ascii [] each = IsAscii-nil
string_ascii (c ∷ t) each =
    subst IsAscii (sym (flat_map-cons escaped c t)) (IsAscii-append (escaped c) (flat_map escaped t) (escaped_ascii c each.0) (string_ascii t each.1))

-- ---- values

truth_ascii : (b : Bool) → IsAscii (value_text (datum.truth b))
truth_ascii true = word_ascii (codes "true") refl
truth_ascii false = word_ascii (codes "false") refl

object_ascii : (p n : ℕ) → p < 2 ^ 16 → n < 2 ^ 32 → IsAscii (111 ∷ (decimal p ++ 46 ∷ decimal n))
object_ascii p n small lt =
    in_front 111 (decimal p ++ 46 ∷ decimal n) (omega arith) (IsAscii-append (decimal p) (46 ∷ decimal n) (IsAscii-decimal p (omega (arith, small)))
    (in_front 46 (decimal n) (omega arith) (IsAscii-decimal n (omega (arith, lt)))))

mutual
  pub value_ascii : (v : Datum) → IsWellFormed v → IsAscii (value_text v)
  value_ascii (datum.int z) formed = signed_ascii z formed
  value_ascii (datum.truth b) formed = truth_ascii b
  value_ascii (datum.char c) formed = in_front 99 (decimal c) (omega arith) (IsAscii-decimal c (omega (arith, formed)))
  value_ascii (datum.enumerated n) formed = in_front 101 (decimal n) (omega arith) (IsAscii-decimal n (omega (arith, formed)))
  value_ascii (datum.text t) formed = around 34 (flat_map escaped t) 34 (omega arith) (omega arith) (string_ascii t (recursion_from_All IsCode t formed.0))
  value_ascii (datum.array w) formed = around 91 (parts_text w) 93 (omega arith) (omega arith) (parts_ascii w formed.0)
  value_ascii (datum.fields w) formed = around 40 (parts_text w) 41 (omega arith) (omega arith) (parts_ascii w formed.0)
  value_ascii (datum.set w) formed = around 123 (parts_text w) 125 (omega arith) (omega arith) (parts_ascii w formed.0)
  value_ascii (datum.bag w) formed = around 60 (parts_text w) 62 (omega arith) (omega arith) (parts_ascii w formed.0)
  value_ascii (datum.object p n) formed = object_ascii p n formed.0 formed.1

  pub parts_ascii : (w : Data) → AreWellFormed w → IsAscii (parts_text w)
  parts_ascii datum.none formed = IsAscii-nil
  parts_ascii (datum.more v w) formed = IsAscii-append (value_text v) (more_text w) (value_ascii v formed.0) (more_ascii w formed.1)

  more_ascii : (w : Data) → AreWellFormed w → IsAscii (more_text w)
  more_ascii datum.none formed = IsAscii-nil
  more_ascii (datum.more v w) formed =
      in_front 32 (value_text v ++ more_text w) (omega arith) (IsAscii-append (value_text v) (more_text w) (value_ascii v formed.0) (more_ascii w formed.1))
