-- The two laws of values: what is read is sound and spelled so, and what is sound and spelled so is read.
use Rattle.std.proofs.Common.{◌≡◌, ℕ, ℤ, pos, negsuc, zero, suc, ◌-◌, ◌^◌, ◌<◌, ◌≤◌, Bool, true, false, cond, eqb, List, [], ◌∷◌, ◌++◌, ◌⊎◌, All, length, drop, Option, Some, None, refl, sym, ap, subst, ◌∙◌, append_assoc, arith, inl, inr}
use Rattle.std.specs.Prelude.{◌&&◌, FitsSigned, nat_lt, nat_le, codes}
use Rattle.std.specs.Char.{is_ascii_digit}
use Rattle.std.specs.Fmt.{decimal, signed_decimal}
use Rattle.std.specs.List.{AllByRecursion, flat_map, list_all}
use Rattle.std.specs.Int.{w64}
use Rattle.std.proofs.lemmas.Bool.{eqb-true}
use Rattle.std.proofs.lemmas.Bool.Decides.{nat_tests}
use Rattle.std.proofs.lemmas.Fmt.{decimal_nonempty, digits_decimal}
use Rattle.std.proofs.lemmas.List.{length-append}
use Rattle.std.proofs.lemmas.List.Concat.{flat_map-cons}
use Rattle.std.proofs.lemmas.List.Elements.{All-from_recursion, recursion_from_All}
use Rattle.orca_base.specs.declared.ids.ObjectId.{ObjectId}
use Rattle.orca_base.specs.declared.limits.TheConstants.{VALUE_NESTING}
use Rattle.value_core.specs.Datum.{Datum, Data, list_of, data_of, list_of-data_of, data_of-list_of}
use Rattle.value_core.specs.Datum as datum
use Rattle.value_core.specs.Sound.{AreSound, AreWellFormed, IsCode, IsShort, IsWellFormed, nesting, nesting_of_all}
use Rattle.value_texts.specs.declared.brackets.Brackets.{Brackets}
use Rattle.value_texts.specs.declared.brackets.Brackets.TheVariants.{Square, Round, Curly, Pointed}
use Rattle.value_texts.specs.Spelling.{BeginsWithNoDigit, escaped, more_text, parts_text, value_text}
use Rattle.value_texts.specs.Reading.{◌>>=◌, Reads, begins, char_at, character_at, closing, content_at, enumerated_at, first_at, int_at, integer_at, list_at, may_follow, natural_at, natural_below, negative_at, object_at, object_id_at, opened_at, opened_by, part_at, sign_at, text_at, truth_at, until_at, value_at, values_at, whole_at, within, word_at}
use Rattle.value_texts.proofs.Steps.{bind_some, bound, some_is, guarded, chosen, no_is, both}
use Rattle.value_texts.proofs.Numerals.{below_again, below_takes, digits_only, natural_again, natural_takes}
use Rattle.value_texts.proofs.Letters.{sign_again, sign_takes, word_again, word_takes}
use Rattle.value_texts.proofs.Escapes.{character_again, character_open, character_takes}
use Rattle.value_texts.proofs.Items.{Are, Fits, IsReader, closed, few, joined, until_closed, until_takes}
use Rattle.value_texts.proofs.Orders.{Follow, Follows, array_follows, bag_follows, bag_sorted, record_follows, set_follows, set_sorted}

-- what a value that is read with so many levels is
abbrev pub Is : ℕ → Datum → Type 0
Is levels v = IsWellFormed v × (nesting v ≤ levels)

-- what is read of a value
abbrev pub Stands : ℕ → List ℕ → Datum × List ℕ → Type 0
Stands levels text x = (text ≡ value_text x.0 ++ x.1) × Is levels x.0

-- ---- values that have no parts

abbrev pub IntegerIs : List ℕ → ℤ × List ℕ → Type 0
IntegerIs text z = (text ≡ signed_decimal z.0 ++ z.1) × FitsSigned w64 z.0

whole_takes : (text : List ℕ) (z : ℤ × List ℕ) → whole_at text ≡ Some z → IntegerIs text z
unfolding whole_at
whole_takes text z e =
    let b = bind_some (natural_below (2 ^ 63) text) (λ n. Some (pos n.0, n.1)) z e in
    let t = below_takes (2 ^ 63) text b.0 b.1 in
    subst (λ (y : ℤ × List ℕ). IntegerIs text y) (some_is (pos b.0.0, b.0.1) z b.2) (t.0, record { sfits = t.1 })

above_zero : (n : ℕ) → (nat_lt 0 n && nat_le n (2 ^ 63)) ≡ true → (0 < n) × (n ≤ 2 ^ 63)
above_zero n h = grind (arith, nat_tests)

negative_takes : (text : List ℕ) (z : ℤ × List ℕ) → negative_at text ≡ Some z → IntegerIs (45 ∷ text) z
unfolding negative_at
negative_takes text z e =
    let b = bind_some (natural_at text) (λ n. cond (nat_lt 0 n.0 && nat_le n.0 (2 ^ 63)) (Some (negsuc (n.0 - 1), n.1)) None) z e in
    let g = guarded (nat_lt 0 b.0.0 && nat_le b.0.0 (2 ^ 63)) (negsuc (b.0.0 - 1), b.0.1) z b.2 in
    let range = above_zero b.0.0 g.0 in
    let back : suc (b.0.0 - 1) ≡ b.0.0 = omega (arith, range.0) in
    let front : text ≡ decimal (suc (b.0.0 - 1)) ++ b.0.1 = (natural_takes text b.0 b.1).0 ∙ ap (λ (k : ℕ). decimal k ++ b.0.1) (sym back) in
    subst (λ (y : ℤ × List ℕ). IntegerIs (45 ∷ text) y) g.1 (ap (λ (t : List ℕ). 45 ∷ t) front, record { sfits = omega (arith, range.0, range.1) })

pub integer_takes : (text : List ℕ) (z : ℤ × List ℕ) → integer_at text ≡ Some z → IntegerIs text z
unfolding integer_at
integer_takes text z e =
    elim (chosen (begins 45 text) _ _ _ e) [
      | inl d ↦ subst (λ (t : List ℕ). IntegerIs t z) (sym (closed 45 text d.0)) (negative_takes (drop 1 text) z d.1)
      | inr d ↦ whole_takes text z d.1
    ]

int_takes : (levels : ℕ) (text : List ℕ) (x : Datum × List ℕ) → int_at text ≡ Some x → Stands (suc levels) text x
unfolding int_at
int_takes levels text x e =
    let b = bind_some (integer_at text) (λ z. Some (datum.int z.0, z.1)) x e in
    let t = integer_takes text b.0 b.1 in
    subst (λ (y : Datum × List ℕ). Stands (suc levels) text y) (some_is (datum.int b.0.0, b.0.1) x b.2) (t.0, (t.1, omega arith))

truth_takes : (levels : ℕ) (truth : Bool) (word text : List ℕ) (x : Datum × List ℕ) → value_text (datum.truth truth) ≡ word → truth_at truth word text ≡ Some x → Stands (suc levels) text x
unfolding truth_at
truth_takes levels truth word text x is e =
    let b = bind_some (word_at word text) (λ rest. Some (datum.truth truth, rest)) x e in
    subst (λ (y : Datum × List ℕ). Stands (suc levels) text y) (some_is (datum.truth truth, b.0) x b.2)
    (word_takes word text b.0 b.1 ∙ ap (λ (w : List ℕ). w ++ b.0) (sym is), (tt, omega arith))

char_takes : (levels : ℕ) (text : List ℕ) (x : Datum × List ℕ) → char_at text ≡ Some x → Stands (suc levels) (99 ∷ text) x
unfolding char_at
char_takes levels text x e =
    let b = bind_some (natural_below 128 text) (λ n. Some (datum.char n.0, n.1)) x e in
    let t = below_takes 128 text b.0 b.1 in
    subst (λ (y : Datum × List ℕ). Stands (suc levels) (99 ∷ text) y) (some_is (datum.char b.0.0, b.0.1) x b.2)
    (ap (λ (s : List ℕ). 99 ∷ s) t.0, (omega (arith, t.1), omega arith))

enumerated_takes : (levels : ℕ) (text : List ℕ) (x : Datum × List ℕ) → enumerated_at text ≡ Some x → Stands (suc levels) (101 ∷ text) x
unfolding enumerated_at
enumerated_takes levels text x e =
    let b = bind_some (natural_below (2 ^ 16) text) (λ n. Some (datum.enumerated n.0, n.1)) x e in
    let t = below_takes (2 ^ 16) text b.0 b.1 in
    subst (λ (y : Datum × List ℕ). Stands (suc levels) (101 ∷ text) y) (some_is (datum.enumerated b.0.0, b.0.1) x b.2)
    (ap (λ (s : List ℕ). 101 ∷ s) t.0, (t.1, omega arith))

abbrev pub object_of : ℕ → ℕ → ObjectId
object_of p n = record { process = p; number = n }

abbrev pub object_text : ObjectId → List ℕ
object_text o = decimal o.process ++ 46 ∷ decimal o.number

pub object_id_takes : (text : List ℕ) (o : ObjectId × List ℕ) → object_id_at text ≡ Some o → (text ≡ object_text o.0 ++ o.1) × (o.0.process < 2 ^ 16) × (o.0.number < 2 ^ 32)
unfolding object_id_at
object_id_takes text o e =
    let a = bind_some (natural_below (2 ^ 16) text) (λ p. sign_at 46 p.1 >>= λ rest. natural_below (2 ^ 32) rest >>= λ n. Some (object_of p.0 n.0, n.1)) o e in
    let s = bind_some (sign_at 46 a.0.1) (λ rest. natural_below (2 ^ 32) rest >>= λ n. Some (object_of a.0.0 n.0, n.1)) o a.2 in
    let b = bind_some (natural_below (2 ^ 32) s.0) (λ n. Some (object_of a.0.0 n.0, n.1)) o s.2 in
    let t = below_takes (2 ^ 16) text a.0 a.1 in
    let u = below_takes (2 ^ 32) s.0 b.0 b.1 in
    let behind : a.0.1 ≡ 46 ∷ (decimal b.0.0 ++ b.0.1) = sign_takes 46 a.0.1 s.0 s.1 ∙ ap (λ (r : List ℕ). 46 ∷ r) u.0 in
    let whole : text ≡ (decimal a.0.0 ++ 46 ∷ decimal b.0.0) ++ b.0.1 =
    t.0 ∙ ap (λ (r : List ℕ). decimal a.0.0 ++ r) behind ∙ sym (append_assoc (decimal a.0.0) (46 ∷ decimal b.0.0) b.0.1) in
    subst (λ (y : ObjectId × List ℕ). (text ≡ object_text y.0 ++ y.1) × (y.0.process < 2 ^ 16) × (y.0.number < 2 ^ 32)) (some_is (object_of a.0.0 b.0.0, b.0.1) o b.2) (whole, t.1, u.1)

object_takes : (levels : ℕ) (text : List ℕ) (x : Datum × List ℕ) → object_at text ≡ Some x → Stands (suc levels) (111 ∷ text) x
unfolding object_at
object_takes levels text x e =
    let b = bind_some (object_id_at text) (λ o. Some (datum.object o.0.process o.0.number, o.1)) x e in
    let t = object_id_takes text b.0 b.1 in
    subst (λ (y : Datum × List ℕ). Stands (suc levels) (111 ∷ text) y) (some_is (datum.object b.0.0.process b.0.0.number, b.0.1) x b.2)
    (ap (λ (r : List ℕ). 111 ∷ r) t.0, ((t.1, t.2), omega arith))

-- ---- strings

abbrev pub letter : Option ℕ → ℕ → List ℕ
letter last c = escaped c

abbrev pub IsLetter : Option ℕ → ℕ → Type 0
IsLetter last c = IsCode c

pub characters_read : IsReader (λ last. character_at) letter IsLetter 34
characters_read = record {
  takes = λ last text x fits e. character_takes text x e;
  again = λ last x xs rest is. character_again x (joined letter (Some x) xs ++ 34 ∷ rest) is;
  opens = λ last x rest is. character_open x rest is;
}

joined-letters : (last : Option ℕ) (t : List ℕ) → joined letter last t ≡ flat_map escaped t
joined-letters last [] = refl
joined-letters last (c ∷ t) = ap (λ (r : List ℕ). escaped c ++ r) (joined-letters (Some c) t) ∙ sym (flat_map-cons escaped c t)

letters_codes : (last : Option ℕ) (t : List ℕ) → Are IsLetter last t → AllByRecursion IsCode t
letters_codes last [] are = tt
letters_codes last (c ∷ t) are = (are.0, letters_codes (Some c) t are.1)

codes_letters : (last : Option ℕ) (t : List ℕ) → AllByRecursion IsCode t → Are IsLetter last t
codes_letters last [] all = tt
codes_letters last (c ∷ t) all = (all.0, codes_letters (Some c) t all.1)

-- what is read up to the closing quote
pub text_chars : (text : List ℕ) (x : List ℕ × List ℕ) → Fits text → until_at (λ last. character_at) 34 (length text) None text ≡ Some x →
    (text ≡ flat_map escaped x.0 ++ 34 ∷ x.1) × AllByRecursion IsCode x.0 × IsShort x.0
text_chars text x fits e =
    let u = until_takes (λ last. character_at) letter IsLetter 34 characters_read (length text) None text x fits e in
    let many = few (λ last. character_at) letter IsLetter 34 characters_read x.0 None u.1 in
    (u.0 ∙ ap (λ (s : List ℕ). s ++ 34 ∷ x.1) (joined-letters None x.0), letters_codes None x.0 u.1, omega (arith, many, ap length u.0, length-append (joined letter None x.0) (34 ∷ x.1), fits))

until_codes : (turns : ℕ) (last : Option ℕ) (text : List ℕ) (x : List ℕ × List ℕ) → until_at (λ last. character_at) 34 turns last text ≡ Some x → AllByRecursion IsCode x.0
unfolding until_at
until_codes zero last text x e = absurd cc
until_codes (suc turns) last text x e =
    elim (chosen (begins 34 text) _ _ _ e) [
      | inl d ↦ subst (λ (y : List ℕ × List ℕ). AllByRecursion IsCode y.0) (some_is ([], drop 1 text) x d.1) tt
      | inr d ↦
          let a = bind_some (character_at text) (λ first. until_at (λ last. character_at) 34 turns (Some first.0) first.1 >>= λ others. Some (first.0 ∷ others.0, others.1)) x d.1 in
          let b = bind_some (until_at (λ last. character_at) 34 turns (Some a.0.0) a.0.1) (λ others. Some (a.0.0 ∷ others.0, others.1)) x a.2 in
          subst (λ (y : List ℕ × List ℕ). AllByRecursion IsCode y.0) (some_is (a.0.0 ∷ b.0.0, b.0.1) x b.2) ((character_takes text a.0 a.1).1, until_codes turns (Some a.0.0) a.0.1 b.0 b.1)
    ]

pub text_codes : (text : List ℕ) (x : List ℕ × List ℕ) → until_at (λ last. character_at) 34 (length text) None text ≡ Some x → AllByRecursion IsCode x.0
text_codes text x e = until_codes (length text) None text x e

text_takes : (levels : ℕ) (text : List ℕ) (x : Datum × List ℕ) → Fits text → text_at text ≡ Some x → Stands (suc levels) (34 ∷ text) x
unfolding text_at
text_takes levels text x fits e =
    let b = bind_some (until_at (λ last. character_at) 34 (length text) None text) (λ chars. Some (datum.text chars.0, chars.1)) x e in
    let u = text_chars text b.0 fits b.1 in
    let whole : text ≡ (flat_map escaped b.0.0 ++ 34 ∷ []) ++ b.0.1 = u.0 ∙ sym (append_assoc (flat_map escaped b.0.0) (34 ∷ []) b.0.1) in
    subst (λ (y : Datum × List ℕ). Stands (suc levels) (34 ∷ text) y) (some_is (datum.text b.0.0, b.0.1) x b.2)
    (ap (λ (s : List ℕ). 34 ∷ s) whole, ((All-from_recursion IsCode b.0.0 u.1, u.2), omega arith))

-- ---- lists

abbrev pub part_text : Option Datum → Datum → List ℕ
part_text None v = value_text v
part_text (Some u) v = 32 ∷ value_text v

abbrev pub IsPart : ℕ → Brackets → Option Datum → Datum → Type 0
IsPart levels brackets last v = Is levels v × Follows brackets last v

joined-more : (u : Datum) (vs : List Datum) → joined part_text (Some u) vs ≡ more_text (data_of vs)
joined-more u [] = refl
joined-more u (v ∷ vs) = ap (λ (r : List ℕ). 32 ∷ (value_text v ++ r)) (joined-more v vs)

pub joined-parts : (vs : List Datum) → joined part_text None vs ≡ parts_text (data_of vs)
joined-parts [] = refl
joined-parts (v ∷ vs) = ap (λ (r : List ℕ). value_text v ++ r) (joined-more v vs)

parts_formed : (levels : ℕ) (brackets : Brackets) (last : Option Datum) (vs : List Datum) → Are (IsPart levels brackets) last vs →
    AreWellFormed (data_of vs) × (nesting_of_all (data_of vs) ≤ levels) × Follow brackets last vs
parts_formed levels brackets last [] are = (tt, omega arith, tt)
parts_formed levels brackets last (v ∷ vs) are =
    let rest = parts_formed levels brackets (Some v) vs are.1 in
    ((are.0.0.0, rest.0), omega (arith, are.0.0.1, rest.1), (are.0.1, rest.2))

formed_parts : (levels : ℕ) (brackets : Brackets) (last : Option Datum) (w : Data) → AreWellFormed w → nesting_of_all w ≤ levels → Follow brackets last (list_of w) → Are (IsPart levels brackets) last (list_of w)
formed_parts levels brackets last datum.none formed shallow follow = tt
formed_parts levels brackets last (datum.more v w) formed shallow follow =
    (((formed.0, omega (arith, shallow)), follow.0), formed_parts levels brackets (Some v) w formed.1 (omega (arith, shallow)) follow.1)

abbrev opening : Brackets → ℕ
opening Square = 91
opening Round = 40
opening Curly = 123
opening Pointed = 60

made : (levels : ℕ) (brackets : Brackets) (text : List ℕ) (vs : List Datum) (rest : List ℕ) → text ≡ (parts_text (data_of vs) ++ closing brackets ∷ []) ++ rest →
    AreWellFormed (data_of vs) → nesting_of_all (data_of vs) ≤ levels → IsShort (list_of (data_of vs)) → Follow brackets None (list_of (data_of vs)) → Stands (suc levels) (opening brackets ∷ text) (within brackets (data_of vs), rest)
made levels Square text vs rest whole formed shallow short follow = (ap (λ (s : List ℕ). 91 ∷ s) whole, ((formed, short), omega (arith, shallow)))
made levels Round text vs rest whole formed shallow short follow = (ap (λ (s : List ℕ). 40 ∷ s) whole, ((formed, short), omega (arith, shallow)))
made levels Curly text vs rest whole formed shallow short follow = (ap (λ (s : List ℕ). 123 ∷ s) whole, ((formed, short, set_sorted None (list_of (data_of vs)) follow), omega (arith, shallow)))
made levels Pointed text vs rest whole formed shallow short follow = (ap (λ (s : List ℕ). 60 ∷ s) whole, ((formed, short, bag_sorted (list_of (data_of vs)) follow), omega (arith, shallow)))

list_takes : (levels : ℕ) (read : List ℕ → Reads Datum) (brackets : Brackets) → IsReader (part_at read brackets) part_text (IsPart levels brackets) (closing brackets) → (text : List ℕ) (x : Datum × List ℕ) →
    Fits text → list_at read brackets text ≡ Some x → Stands (suc levels) (opening brackets ∷ text) x
unfolding list_at
list_takes levels read brackets reader text x fits e =
    let item = part_at read brackets in
    let b = bind_some (until_at item (closing brackets) (length text) None text) (λ parts. Some (within brackets (data_of parts.0), parts.1)) x e in
    let vs = b.0.0 in
    let u = until_takes item part_text (IsPart levels brackets) (closing brackets) reader (length text) None text b.0 fits b.1 in
    let many = few item part_text (IsPart levels brackets) (closing brackets) reader vs None u.1 in
    let f = parts_formed levels brackets None vs u.1 in
    let short : IsShort vs = omega (arith, many, ap length u.0, length-append (joined part_text None vs) (closing brackets ∷ b.0.1), fits) in
    let back : list_of (data_of vs) ≡ vs = list_of-data_of vs in
    let whole : text ≡ (parts_text (data_of vs) ++ closing brackets ∷ []) ++ b.0.1 =
    u.0 ∙ ap (λ (s : List ℕ). s ++ closing brackets ∷ b.0.1) (joined-parts vs) ∙ sym (append_assoc (parts_text (data_of vs)) (closing brackets ∷ []) b.0.1) in
    subst (λ (y : Datum × List ℕ). Stands (suc levels) (opening brackets ∷ text) y) (some_is (within brackets (data_of vs), b.0.1) x b.2)
    (made levels brackets text vs b.0.1 whole f.0 f.1 (subst (λ (ws : List Datum). IsShort ws) (sym back) short) (subst (λ (ws : List Datum). Follow brackets None ws) (sym back) f.2))

-- ---- how a value begins

pub record BeginsWithDigit (ds : List ℕ) : Type 0 where
  pub first : ℕ
  pub others : List ℕ
  pub parts : ds ≡ first ∷ others
  pub digit : is_ascii_digit first ≡ true

digit_first : (ds : List ℕ) → list_all is_ascii_digit ds ≡ true → 0 < length ds → BeginsWithDigit ds
digit_first [] all some = absurd (omega (arith, some))
digit_first (d ∷ ds) all some = record { first = d; others = ds; parts = refl; digit = (both (is_ascii_digit d) (list_all is_ascii_digit ds) all).0 }

pub number_first : (n : ℕ) → n < 2 ^ 64 → BeginsWithDigit (decimal n)
number_first n small = digit_first (decimal n) (digits_decimal digits_only n small) (decimal_nonempty n small)

digit_opens : (brackets : Brackets) (d : ℕ) → is_ascii_digit d ≡ true → eqb d (closing brackets) ≡ false
digit_opens Square d h = grind (arith, nat_tests)
digit_opens Round d h = grind (arith, nat_tests)
digit_opens Curly d h = grind (arith, nat_tests)
digit_opens Pointed d h = grind (arith, nat_tests)

truth_opens : (brackets : Brackets) (b : Bool) (rest : List ℕ) → begins (closing brackets) (value_text (datum.truth b) ++ rest) ≡ false
truth_opens Square true rest = refl
truth_opens Square false rest = refl
truth_opens Round true rest = refl
truth_opens Round false rest = refl
truth_opens Curly true rest = refl
truth_opens Curly false rest = refl
truth_opens Pointed true rest = refl
truth_opens Pointed false rest = refl

-- a byte that begins no list's end
apart : (brackets : Brackets) (c : ℕ) → (c ≡ 45) ⊎ ((c ≡ 99) ⊎ ((c ≡ 101) ⊎ ((c ≡ 34) ⊎ ((c ≡ 91) ⊎ ((c ≡ 40) ⊎ ((c ≡ 123) ⊎ ((c ≡ 60) ⊎ (c ≡ 111)))))))) → eqb c (closing brackets) ≡ false
apart Square c is = grind (arith, nat_tests)
apart Round c is = grind (arith, nat_tests)
apart Curly c is = grind (arith, nat_tests)
apart Pointed c is = grind (arith, nat_tests)

value_opens : (brackets : Brackets) (v : Datum) (rest : List ℕ) → IsWellFormed v → begins (closing brackets) (value_text v ++ rest) ≡ false
value_opens brackets (datum.int (pos n)) rest formed =
    let d = number_first n (omega (arith, formed.sfits)) in
    ap (λ (t : List ℕ). begins (closing brackets) (t ++ rest)) d.parts ∙ digit_opens brackets d.first d.digit
value_opens brackets (datum.int (negsuc n)) rest formed = apart brackets 45 (inl refl)
value_opens brackets (datum.truth b) rest formed = truth_opens brackets b rest
value_opens brackets (datum.char c) rest formed = apart brackets 99 (inr (inl refl))
value_opens brackets (datum.enumerated n) rest formed = apart brackets 101 (inr (inr (inl refl)))
value_opens brackets (datum.text t) rest formed = apart brackets 34 (inr (inr (inr (inl refl))))
value_opens brackets (datum.array w) rest formed = apart brackets 91 (inr (inr (inr (inr (inl refl)))))
value_opens brackets (datum.fields w) rest formed = apart brackets 40 (inr (inr (inr (inr (inr (inl refl))))))
value_opens brackets (datum.set w) rest formed = apart brackets 123 (inr (inr (inr (inr (inr (inr (inl refl)))))))
value_opens brackets (datum.bag w) rest formed = apart brackets 60 (inr (inr (inr (inr (inr (inr (inr (inl refl))))))))
value_opens brackets (datum.object p n) rest formed = apart brackets 111 (inr (inr (inr (inr (inr (inr (inr (inr refl))))))))

space_opens : (brackets : Brackets) → eqb 32 (closing brackets) ≡ false
space_opens Square = refl
space_opens Round = refl
space_opens Curly = refl
space_opens Pointed = refl

no_minus : (d : ℕ) → is_ascii_digit d ≡ true → eqb d 45 ≡ false
no_minus d h = grind (arith, nat_tests)

-- no digit stands behind a part
part_ends : (brackets : Brackets) (v : Datum) (vs : List Datum) (rest : List ℕ) → BeginsWithNoDigit (joined part_text (Some v) vs ++ closing brackets ∷ rest)
part_ends Square v [] rest = refl
part_ends Round v [] rest = refl
part_ends Curly v [] rest = refl
part_ends Pointed v [] rest = refl
part_ends brackets v (u ∷ vs) rest = refl

-- a reader of values, which is right for so many levels
pub record ReadsValues (levels : ℕ) (read : List ℕ → Reads Datum) : Type 0 where
  pub takes : (text : List ℕ) (x : Datum × List ℕ) → Fits text → read text ≡ Some x → Stands levels text x
  pub again : (v : Datum) (rest : List ℕ) → Is levels v → BeginsWithNoDigit rest → read (value_text v ++ rest) ≡ Some (v, rest)

part_takes : (levels : ℕ) (read : List ℕ → Reads Datum) → ReadsValues levels read → (brackets : Brackets) (last : Option Datum) (text : List ℕ) (x : Datum × List ℕ) → Fits text →
    part_at read brackets last text ≡ Some x → (text ≡ part_text last x.0 ++ x.1) × IsPart levels brackets last x.0
unfolding part_at
part_takes levels read one brackets None text x fits e =
    let t = one.takes text x fits e in
    (t.0, (t.1, tt))
part_takes levels read one brackets (Some v) text x fits e =
    let s = bind_some (sign_at 32 text) (λ rest. read rest >>= λ w. cond (may_follow brackets v w.0) (Some w) None) x e in
    let b = bind_some (read s.0) (λ w. cond (may_follow brackets v w.0) (Some w) None) x s.2 in
    let g = guarded (may_follow brackets v b.0.0) b.0 x b.2 in
    let is = sign_takes 32 text s.0 s.1 in
    let t = one.takes s.0 b.0 (omega (arith, ap length is, fits)) b.1 in
    subst (λ (y : Datum × List ℕ). (text ≡ 32 ∷ (value_text y.0 ++ y.1)) × (Is levels y.0 × (may_follow brackets v y.0 ≡ true))) g.1
    (is ∙ ap (λ (r : List ℕ). 32 ∷ r) t.0, (t.1, g.0))

part_again : (levels : ℕ) (read : List ℕ → Reads Datum) → ReadsValues levels read → (brackets : Brackets) (last : Option Datum) (v : Datum) (rest : List ℕ) → IsPart levels brackets last v → BeginsWithNoDigit rest →
    part_at read brackets last (part_text last v ++ rest) ≡ Some (v, rest)
unfolding part_at
part_again levels read one brackets None v rest is ends = one.again v rest is.0 ends
part_again levels read one brackets (Some u) v rest is ends =
    bound (sign_at 32 (32 ∷ (value_text v ++ rest))) (λ rest. read rest >>= λ w. cond (may_follow brackets u w.0) (Some w) None) (value_text v ++ rest) (sign_again 32 (value_text v ++ rest))
    ∙ bound (read (value_text v ++ rest)) (λ w. cond (may_follow brackets u w.0) (Some w) None) (v, rest) (one.again v rest is.0 ends)
    ∙ ap (λ (b : Bool). cond b (Some (v, rest)) None) is.1

part_opens : (levels : ℕ) (brackets : Brackets) (last : Option Datum) (v : Datum) (rest : List ℕ) → IsPart levels brackets last v → begins (closing brackets) (part_text last v ++ rest) ≡ false
part_opens levels brackets None v rest is = value_opens brackets v rest is.0.0
part_opens levels brackets (Some u) v rest is = space_opens brackets

pub parts_read : (levels : ℕ) (read : List ℕ → Reads Datum) → ReadsValues levels read → (brackets : Brackets) → IsReader (part_at read brackets) part_text (IsPart levels brackets) (closing brackets)
parts_read levels read one brackets = record {
  takes = λ last text x fits e. part_takes levels read one brackets last text x fits e;
  again = λ last v vs rest is. part_again levels read one brackets last v (joined part_text (Some v) vs ++ closing brackets ∷ rest) is (part_ends brackets v vs rest);
  opens = λ last v rest is. part_opens levels brackets last v rest is;
}

-- ---- any value: what is read stands there

opened_takes : (levels : ℕ) (read : List ℕ → Reads Datum) → ReadsValues levels read → (first : ℕ) (text : List ℕ) (x : Datum × List ℕ) → Fits text → opened_at read (opened_by first) (first ∷ text) ≡ Some x → Stands (suc levels) (first ∷ text) x
unfolding opened_at opened_by
opened_takes levels read one first text x fits e = by_tests (eqb first 91) (eqb first 40) (eqb first 123) (eqb first 60) refl refl refl refl e
  where
    listed : (brackets : Brackets) → first ≡ opening brackets → list_at read brackets text ≡ Some x → Stands (suc levels) (first ∷ text) x
    listed brackets is h = subst (λ (c : ℕ). Stands (suc levels) (c ∷ text) x) (sym is) (list_takes levels read brackets (parts_read levels read one brackets) text x fits h)

    by_tests : (s r c p : Bool) → eqb first 91 ≡ s → eqb first 40 ≡ r → eqb first 123 ≡ c → eqb first 60 ≡ p →
        opened_at read (cond s (Some Square) (cond r (Some Round) (cond c (Some Curly) (cond p (Some Pointed) None)))) (first ∷ text) ≡ Some x → Stands (suc levels) (first ∷ text) x
    by_tests true r c p es er ec ep h = listed Square (eqb-true first 91 es) h
    by_tests false true c p es er ec ep h = listed Round (eqb-true first 40 er) h
    by_tests false false true p es er ec ep h = listed Curly (eqb-true first 123 ec) h
    by_tests false false false true es er ec ep h = listed Pointed (eqb-true first 60 ep) h
    by_tests false false false false es er ec ep h = int_takes levels (first ∷ text) x h

content_takes : (levels : ℕ) (read : List ℕ → Reads Datum) → ReadsValues levels read → (first : ℕ) (text : List ℕ) (x : Datum × List ℕ) → Fits text → content_at read first (first ∷ text) ≡ Some x → Stands (suc levels) (first ∷ text) x
unfolding content_at
content_takes levels read one first text x fits e =
    elim (chosen (eqb first 99) _ _ _ e) [
      | inl d ↦ subst (λ (c : ℕ). Stands (suc levels) (c ∷ text) x) (sym (eqb-true first 99 d.0)) (char_takes levels text x d.1)
      | inr d1 ↦ elim (chosen (eqb first 101) _ _ _ d1.1) [
        | inl d ↦ subst (λ (c : ℕ). Stands (suc levels) (c ∷ text) x) (sym (eqb-true first 101 d.0)) (enumerated_takes levels text x d.1)
        | inr d2 ↦ elim (chosen (eqb first 111) _ _ _ d2.1) [
          | inl d ↦ subst (λ (c : ℕ). Stands (suc levels) (c ∷ text) x) (sym (eqb-true first 111 d.0)) (object_takes levels text x d.1)
          | inr d3 ↦ elim (chosen (eqb first 34) _ _ _ d3.1) [
            | inl d ↦ subst (λ (c : ℕ). Stands (suc levels) (c ∷ text) x) (sym (eqb-true first 34 d.0)) (text_takes levels text x fits d.1)
            | inr d4 ↦ elim (chosen (eqb first 116) _ _ _ d4.1) [
              | inl d ↦ truth_takes levels true (codes "true") (first ∷ text) x refl d.1
              | inr d5 ↦ elim (chosen (eqb first 102) _ _ _ d5.1) [
                | inl d ↦ truth_takes levels false (codes "false") (first ∷ text) x refl d.1
                | inr d6 ↦ opened_takes levels read one first text x fits d6.1
              ]
            ]
          ]
        ]
      ]
    ]

-- ---- any value: what is spelled so is read

whole_again : (n : ℕ) (rest : List ℕ) → n < 2 ^ 63 → BeginsWithNoDigit rest → whole_at (decimal n ++ rest) ≡ Some (pos n, rest)
unfolding whole_at
whole_again n rest lt ends =
    bound (natural_below (2 ^ 63) (decimal n ++ rest)) (λ n. Some (pos n.0, n.1)) (n, rest) (below_again (2 ^ 63) n rest lt (omega (arith, lt)) ends)

in_range : (n : ℕ) → n < 2 ^ 63 → (nat_lt 0 (suc n) && nat_le (suc n) (2 ^ 63)) ≡ true
in_range n lt = grind (arith, nat_tests)

negative_again : (n : ℕ) (rest : List ℕ) → n < 2 ^ 63 → BeginsWithNoDigit rest → negative_at (decimal (suc n) ++ rest) ≡ Some (negsuc n, rest)
unfolding negative_at
negative_again n rest lt ends =
    let back : suc n - 1 ≡ n = omega arith in
    bound (natural_at (decimal (suc n) ++ rest)) (λ n. cond (nat_lt 0 n.0 && nat_le n.0 (2 ^ 63)) (Some (negsuc (n.0 - 1), n.1)) None) (suc n, rest) (natural_again (suc n) rest (omega (arith, lt)) ends)
    ∙ ap (λ (b : Bool). cond b (Some (negsuc (suc n - 1), rest)) None) (in_range n lt)
    ∙ ap (λ (k : ℕ). Some (negsuc k, rest)) back

digit_begins : (n : ℕ) (rest : List ℕ) → n < 2 ^ 63 → begins 45 (decimal n ++ rest) ≡ false
digit_begins n rest lt =
    let d = number_first n (omega (arith, lt)) in
    ap (λ (t : List ℕ). begins 45 (t ++ rest)) d.parts ∙ no_minus d.first d.digit

pub integer_again : (z : ℤ) (rest : List ℕ) → FitsSigned w64 z → BeginsWithNoDigit rest → integer_at (signed_decimal z ++ rest) ≡ Some (z, rest)
unfolding integer_at
integer_again (pos n) rest fits ends =
    no_is (begins 45 (decimal n ++ rest)) (negative_at (drop 1 (decimal n ++ rest))) (whole_at (decimal n ++ rest)) (digit_begins n rest fits.sfits) ∙ whole_again n rest fits.sfits ends
integer_again (negsuc n) rest fits ends = negative_again n rest fits.sfits ends

int_again : (z : ℤ) (rest : List ℕ) → FitsSigned w64 z → BeginsWithNoDigit rest → int_at (signed_decimal z ++ rest) ≡ Some (datum.int z, rest)
unfolding int_at
int_again z rest fits ends = bound (integer_at (signed_decimal z ++ rest)) (λ z. Some (datum.int z.0, z.1)) (z, rest) (integer_again z rest fits ends)

truth_again : (truth : Bool) (word rest : List ℕ) → truth_at truth word (word ++ rest) ≡ Some (datum.truth truth, rest)
unfolding truth_at
truth_again truth word rest = bound (word_at word (word ++ rest)) (λ rest. Some (datum.truth truth, rest)) rest (word_again word rest)

char_again : (c : ℕ) (rest : List ℕ) → c ≤ 127 → BeginsWithNoDigit rest → char_at (decimal c ++ rest) ≡ Some (datum.char c, rest)
unfolding char_at
char_again c rest le ends =
    bound (natural_below 128 (decimal c ++ rest)) (λ n. Some (datum.char n.0, n.1)) (c, rest) (below_again 128 c rest (omega (arith, le)) (omega (arith, le)) ends)

enumerated_again : (n : ℕ) (rest : List ℕ) → n < 2 ^ 16 → BeginsWithNoDigit rest → enumerated_at (decimal n ++ rest) ≡ Some (datum.enumerated n, rest)
unfolding enumerated_at
enumerated_again n rest lt ends =
    bound (natural_below (2 ^ 16) (decimal n ++ rest)) (λ n. Some (datum.enumerated n.0, n.1)) (n, rest) (below_again (2 ^ 16) n rest lt (omega (arith, lt)) ends)

pub object_id_again : (o : ObjectId) (rest : List ℕ) → o.process < 2 ^ 16 → o.number < 2 ^ 32 → BeginsWithNoDigit rest → object_id_at (object_text o ++ rest) ≡ Some (o, rest)
unfolding object_id_at
object_id_again o rest small lt ends =
    let p = o.process in
    let n = o.number in
    ap object_id_at (append_assoc (decimal p) (46 ∷ decimal n) rest)
    ∙ bound (natural_below (2 ^ 16) (decimal p ++ 46 ∷ (decimal n ++ rest))) (λ p. sign_at 46 p.1 >>= λ rest. natural_below (2 ^ 32) rest >>= λ n. Some (object_of p.0 n.0, n.1)) (p, 46 ∷ (decimal n ++ rest))
    (below_again (2 ^ 16) p (46 ∷ (decimal n ++ rest)) small (omega (arith, small)) refl)
    ∙ bound (sign_at 46 (46 ∷ (decimal n ++ rest))) (λ rest. natural_below (2 ^ 32) rest >>= λ n. Some (object_of p n.0, n.1)) (decimal n ++ rest) (sign_again 46 (decimal n ++ rest))
    ∙ bound (natural_below (2 ^ 32) (decimal n ++ rest)) (λ n. Some (object_of p n.0, n.1)) (n, rest) (below_again (2 ^ 32) n rest lt (omega (arith, lt)) ends)

object_again : (p n : ℕ) (rest : List ℕ) → p < 2 ^ 16 → n < 2 ^ 32 → BeginsWithNoDigit rest → object_at ((decimal p ++ 46 ∷ decimal n) ++ rest) ≡ Some (datum.object p n, rest)
unfolding object_at
object_again p n rest small lt ends =
    let o : ObjectId = object_of p n in
    bound (object_id_at (object_text o ++ rest)) (λ o. Some (datum.object o.0.process o.0.number, o.1)) (o, rest) (object_id_again o rest small lt ends)

text_again : (t rest : List ℕ) → All IsCode t → text_at ((flat_map escaped t ++ 34 ∷ []) ++ rest) ≡ Some (datum.text t, rest)
unfolding text_at
text_again t rest all =
    let text = joined letter None t ++ 34 ∷ rest in
    let grouped : (flat_map escaped t ++ 34 ∷ []) ++ rest ≡ text = append_assoc (flat_map escaped t) (34 ∷ []) rest ∙ ap (λ (s : List ℕ). s ++ 34 ∷ rest) (sym (joined-letters None t)) in
    ap text_at grouped
    ∙ bound (until_at (λ last. character_at) 34 (length text) None text) (λ chars. Some (datum.text chars.0, chars.1)) (t, rest)
    (until_closed (λ last. character_at) letter IsLetter 34 characters_read t rest (codes_letters None t (recursion_from_All IsCode t all)))

list_again : (levels : ℕ) (read : List ℕ → Reads Datum) → ReadsValues levels read → (brackets : Brackets) (w : Data) (rest : List ℕ) → AreWellFormed w → nesting_of_all w ≤ levels → Follow brackets None (list_of w) →
    list_at read brackets ((parts_text w ++ closing brackets ∷ []) ++ rest) ≡ Some (within brackets w, rest)
unfolding list_at
list_again levels read one brackets w rest formed shallow follow =
    let vs = list_of w in
    let text = joined part_text None vs ++ closing brackets ∷ rest in
    let same : parts_text w ≡ joined part_text None vs = ap parts_text (sym (data_of-list_of w)) ∙ sym (joined-parts vs) in
    let grouped : (parts_text w ++ closing brackets ∷ []) ++ rest ≡ text = append_assoc (parts_text w) (closing brackets ∷ []) rest ∙ ap (λ (s : List ℕ). s ++ closing brackets ∷ rest) same in
    ap (list_at read brackets) grouped
    ∙ bound (until_at (part_at read brackets) (closing brackets) (length text) None text) (λ parts. Some (within brackets (data_of parts.0), parts.1)) (vs, rest)
    (until_closed (part_at read brackets) part_text (IsPart levels brackets) (closing brackets) (parts_read levels read one brackets) vs rest (formed_parts levels brackets None w formed shallow follow))
    ∙ ap (λ (d : Data). Some (within brackets d, rest)) (data_of-list_of w)

-- a digit begins a number
record Digit (d : ℕ) : Type 0 where
  char : eqb d 99 ≡ false
  enumerated : eqb d 101 ≡ false
  object : eqb d 111 ≡ false
  quote : eqb d 34 ≡ false
  yes : eqb d 116 ≡ false
  no_ : eqb d 102 ≡ false
  square : eqb d 91 ≡ false
  round : eqb d 40 ≡ false
  curly : eqb d 123 ≡ false
  pointed : eqb d 60 ≡ false

digit_apart : (d : ℕ) → is_ascii_digit d ≡ true → Digit d
digit_apart d h = record {
  char = grind (arith, nat_tests);
  enumerated = grind (arith, nat_tests);
  object = grind (arith, nat_tests);
  quote = grind (arith, nat_tests);
  yes = grind (arith, nat_tests);
  no_ = grind (arith, nat_tests);
  square = grind (arith, nat_tests);
  round = grind (arith, nat_tests);
  curly = grind (arith, nat_tests);
  pointed = grind (arith, nat_tests);
}

opens_none : (d : ℕ) → Digit d → opened_by d ≡ None
unfolding opened_by
opens_none d a = rw (a.square, a.round, a.curly, a.pointed) refl

digit_content : (read : List ℕ → Reads Datum) (d : ℕ) (text : List ℕ) → Digit d → content_at read d text ≡ int_at text
unfolding content_at opened_at
digit_content read d text a = rw (a.char, a.enumerated, a.object, a.quote, a.yes, a.no_, opens_none d a) refl

by_first : (levels : ℕ) (first : ℕ) (text : List ℕ) → value_at (suc levels) (first ∷ text) ≡ content_at (value_at levels) first (first ∷ text)
unfolding value_at first_at
by_first levels first text = refl

number_again : (levels n : ℕ) (rest : List ℕ) → n < 2 ^ 63 → BeginsWithNoDigit rest → value_at (suc levels) (decimal n ++ rest) ≡ Some (datum.int (pos n), rest)
number_again levels n rest lt ends =
    let d = number_first n (omega (arith, lt)) in
    let text : decimal n ++ rest ≡ d.first ∷ (d.others ++ rest) = ap (λ (t : List ℕ). t ++ rest) d.parts in
    ap (value_at (suc levels)) text
    ∙ by_first levels d.first (d.others ++ rest)
    ∙ digit_content (value_at levels) d.first (d.first ∷ (d.others ++ rest)) (digit_apart d.first d.digit)
    ∙ ap int_at (sym text)
    ∙ int_again (pos n) rest (record { sfits = lt }) ends

pub nests : (v : Datum) → 0 < nesting v
nests (datum.int z) = omega arith
nests (datum.truth b) = omega arith
nests (datum.char c) = omega arith
nests (datum.enumerated n) = omega arith
nests (datum.text t) = omega arith
nests (datum.array w) = omega arith
nests (datum.fields w) = omega arith
nests (datum.set w) = omega arith
nests (datum.bag w) = omega arith
nests (datum.object p n) = omega arith

again_more : (levels : ℕ) → ReadsValues levels (value_at levels) → (v : Datum) (rest : List ℕ) → Is (suc levels) v → BeginsWithNoDigit rest → value_at (suc levels) (value_text v ++ rest) ≡ Some (v, rest)
unfolding value_at first_at content_at opened_by opened_at
again_more levels one (datum.int (pos n)) rest is ends = number_again levels n rest is.0.sfits ends
again_more levels one (datum.int (negsuc n)) rest is ends = int_again (negsuc n) rest is.0 ends
again_more levels one (datum.truth true) rest is ends = truth_again true (codes "true") rest
again_more levels one (datum.truth false) rest is ends = truth_again false (codes "false") rest
again_more levels one (datum.char c) rest is ends = char_again c rest is.0 ends
again_more levels one (datum.enumerated n) rest is ends = enumerated_again n rest is.0 ends
again_more levels one (datum.text t) rest is ends = text_again t rest is.0.0
again_more levels one (datum.array w) rest is ends = list_again levels (value_at levels) one Square w rest is.0.0 (omega (arith, is.1)) (array_follows None (list_of w))
again_more levels one (datum.fields w) rest is ends = list_again levels (value_at levels) one Round w rest is.0.0 (omega (arith, is.1)) (record_follows None (list_of w))
again_more levels one (datum.set w) rest is ends = list_again levels (value_at levels) one Curly w rest is.0.0 (omega (arith, is.1)) (set_follows (list_of w) is.0.2)
again_more levels one (datum.bag w) rest is ends = list_again levels (value_at levels) one Pointed w rest is.0.0 (omega (arith, is.1)) (bag_follows (list_of w) is.0.2)
again_more levels one (datum.object p n) rest is ends = object_again p n rest is.0.0 is.0.1 ends

takes_more : (levels : ℕ) → ReadsValues levels (value_at levels) → (text : List ℕ) (x : Datum × List ℕ) → Fits text → value_at (suc levels) text ≡ Some x → Stands (suc levels) text x
unfolding value_at first_at
takes_more levels one [] x fits e = absurd cc
takes_more levels one (first ∷ text) x fits e = content_takes levels (value_at levels) one first text x (omega (arith, fits)) e

none_takes : (text : List ℕ) (x : Datum × List ℕ) → value_at zero text ≡ Some x → ⊥
unfolding value_at
none_takes text x e = cc

pub values_read : (levels : ℕ) → ReadsValues levels (value_at levels)
values_read zero = record {
  takes = λ text x fits e. absurd (none_takes text x e);
  again = λ v rest is ends. absurd (omega (arith, nests v, is.1));
}
values_read (suc levels) = record {
  takes = λ text x fits e. takes_more levels (values_read levels) text x fits e;
  again = λ v rest is ends. again_more levels (values_read levels) v rest is ends;
}

-- ---- values in round brackets

abbrev pub ListStands : List ℕ → List Datum × List ℕ → Type 0
ListStands text x = (text ≡ 40 ∷ (parts_text (data_of x.0) ++ 41 ∷ x.1)) × AreSound (data_of x.0)

pub values_take : (text : List ℕ) (x : List Datum × List ℕ) → Fits text → values_at text ≡ Some x → ListStands text x
unfolding values_at
values_take text x fits e =
    let levels = VALUE_NESTING in
    let item = part_at (value_at levels) Round in
    let reader = parts_read levels (value_at levels) (values_read levels) Round in
    let s = bind_some (sign_at 40 text) (λ rest. until_at item 41 (length rest) None rest) x e in
    let is = sign_takes 40 text s.0 s.1 in
    let small : Fits s.0 = omega (arith, ap length is, fits) in
    let u = until_takes item part_text (IsPart levels Round) 41 reader (length s.0) None s.0 x small s.2 in
    let many = few item part_text (IsPart levels Round) 41 reader x.0 None u.1 in
    let f = parts_formed levels Round None x.0 u.1 in
    let short : IsShort x.0 = omega (arith, many, ap length u.0, length-append (joined part_text None x.0) (41 ∷ x.1), small) in (
      is ∙ ap (λ (t : List ℕ). 40 ∷ t) (u.0 ∙ ap (λ (t : List ℕ). t ++ 41 ∷ x.1) (joined-parts x.0)),
      record { well_formed = f.0; shallow = f.1; short = subst (λ (ws : List Datum). IsShort ws) (sym (list_of-data_of x.0)) short },
    )

pub values_again : (w : Data) (rest : List ℕ) → AreSound w → values_at (40 ∷ (parts_text w ++ 41 ∷ rest)) ≡ Some (list_of w, rest)
unfolding values_at
values_again w rest sound =
    let levels = VALUE_NESTING in
    let item = part_at (value_at levels) Round in
    let reader = parts_read levels (value_at levels) (values_read levels) Round in
    let text = joined part_text None (list_of w) ++ 41 ∷ rest in
    let same : parts_text w ≡ joined part_text None (list_of w) = ap parts_text (sym (data_of-list_of w)) ∙ sym (joined-parts (list_of w)) in
    ap (λ (t : List ℕ). values_at (40 ∷ (t ++ 41 ∷ rest))) same
    ∙ bound (sign_at 40 (40 ∷ text)) (λ rest. until_at item 41 (length rest) None rest) text (sign_again 40 text)
    ∙ until_closed item part_text (IsPart levels Round) 41 reader (list_of w) rest (formed_parts levels Round None w sound.well_formed sound.shallow (record_follows None (list_of w)))
