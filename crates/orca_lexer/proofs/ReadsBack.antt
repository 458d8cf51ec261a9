-- What is spelled is read back: the text of sound kinds has tokens of exactly these kinds.
use Rattle.std.proofs.Common.{◌≡◌, ℕ, suc, ◌-◌, ◌+◌, ◌<◌, ◌≤◌, Bool, true, false, cond, not, ◌||◌, ◌&&◌, List, [], ◌∷◌, ◌++◌, map, length, take, drop, Some, refl, sym, ap, ◌∙◌, subst, inl, inr, ◌⊎◌, arith, pos, append_assoc, length-append, length-drop}
use Rattle.std.specs.Prelude.{slice_range, is_some, ◌==◌, ◌^◌, nat_lt, nat_le, decimal}
use Rattle.std.specs.Fmt.{signed_decimal}
use Rattle.std.specs.Char.{is_ascii_alphabetic, is_ascii_digit, digit_value}
use Rattle.std.specs.List.{AllByRecursion, list_all, flat_map, join_with_byte}
use Rattle.std.specs.Str.{IsAscii}
use Rattle.std.specs.Str.Parse.{AllDigits}
use Rattle.std.proofs.lemmas.Bool.{and_parts, and_from, or_cases, or_parts, eqb-true, eq-eqb, ltb-true, not-true}
use Rattle.std.proofs.lemmas.Bool.Decides.{nat_tests}
use Rattle.std.proofs.lemmas.Fmt.{decimal_is_IsNumeral}
use Rattle.std.proofs.lemmas.List.{append-nil, take_at, drop_at, drop-drop}
use Rattle.std.proofs.lemmas.List.Folds.{list_all-append}
use Rattle.std.proofs.lemmas.Str.{IsUtf8-from_ascii}
use Rattle.std.proofs.lemmas.Str.Ascii.{IsAscii-nil, IsAscii-cons}
use Rattle.orca_lexer.specs.declared.token.Symbol.{Symbol}
use Rattle.orca_lexer.specs.declared.token.Token.{Token}
use Rattle.orca_lexer.specs.declared.token.TokenKind.{TokenKind}
use Rattle.orca_lexer.specs.declared.token.TokenKind.TheVariants.{Name, Number, Char, Text, Key, Sign}
use Rattle.orca_lexer.specs.Tables.{symbols, symbol_of}
use Rattle.orca_lexer.specs.Shapes.{is_name_byte, is_word, is_numeral, is_quote, is_literal, is_last, is_lexeme, content_len, content_of}
use Rattle.orca_lexer.specs.Contents.{escape_of, is_plain, first_character, Spells}
use Rattle.orca_lexer.specs.Tokens.{is_blank, IsLongest, Means, Begins, Follow, Tokens, end_of, after_gap, place_in}
use Rattle.orca_lexer.specs.Spelling.{keyword_text, symbol_text, character_text, spelling_of, written, is_character, IsSound, AreReadBack}
use Rattle.orca_lexer.proofs.Longest.{IsShaped, shaped, not_true, entry_passes, all_seam, stops, word_longest, numeral_longest, sign_longest, no_empty_lexeme}
use Rattle.orca_lexer.proofs.Longest.IsShaped.{a_word, a_numeral, a_sign, a_char, a_string}
use Rattle.orca_lexer.proofs.LiteralLemmas.{plain_first, escape_first}
use Rattle.orca_lexer.proofs.Extents.{literal_from, literal_longest}
use Rattle.orca_lexer.proofs.TextsBack.{keyword_back, keyword_word, symbol_back, symbol_low}

-- ---- one character between quotes

pub record IsWritten (quote c : ℕ) (text : List ℕ) : Type 0 where
  pub first : (rest : List ℕ) → first_character quote (text ++ rest) ≡ Some (c, rest)
  pub extent : (rest : List ℕ) (n : ℕ) → content_len false quote rest ≡ Some n → content_len false quote (text ++ rest) ≡ Some (length text + n)
  pub low : list_all (λ d. nat_lt d 128) text ≡ true

no_backslash : (quote : ℕ) → is_quote quote ≡ true → (92 == quote) ≡ false
no_backslash quote q = by_quote (or_cases (quote == 39) (quote == 34) q)
  where
    by_quote : ((quote == 39) ≡ true) ⊎ ((quote == 34) ≡ true) → (92 == quote) ≡ false
    by_quote (inl e) = subst (λ n. (92 == n) ≡ false) (sym (eqb-true quote 39 e)) refl
    by_quote (inr e) = subst (λ n. (92 == n) ≡ false) (sym (eqb-true quote 34 e)) refl

self_escape : (quote c : ℕ) → is_quote quote ≡ true → (c == 92 || c == quote) ≡ true → escape_of c ≡ Some c
self_escape quote c q h = by_kind (or_cases (c == 92) (c == quote) h) (or_cases (quote == 39) (quote == 34) q)
  where
    at : (n : ℕ) → escape_of n ≡ Some n → c ≡ n → escape_of c ≡ Some c
    at n e same = subst (λ (m : ℕ). escape_of m ≡ Some m) (sym same) e

    by_kind : ((c == 92) ≡ true) ⊎ ((c == quote) ≡ true) → ((quote == 39) ≡ true) ⊎ ((quote == 34) ≡ true) → escape_of c ≡ Some c
    by_kind (inl e) _ = at 92 refl (eqb-true c 92 e)
    by_kind (inr e) (inl f) = at 39 refl (eqb-true c quote e ∙ eqb-true quote 39 f)
    by_kind (inr e) (inr f) = at 34 refl (eqb-true c quote e ∙ eqb-true quote 34 f)

and_false : (b : Bool) → (b && false) ≡ false
and_false true = refl
and_false false = refl

-- an escape of two bytes, and one byte that stands for itself
escape_extent : (quote d : ℕ) → (92 == quote) ≡ false → (d == 10) ≡ false → (rest : List ℕ) (n : ℕ) → content_len false quote rest ≡ Some n → content_len false quote (92 ∷ d ∷ rest) ≡ Some (2 + n)
escape_extent quote d no_quote no_feed rest n e =
    let two : suc (suc n) ≡ 2 + n = omega arith in
    let quoted = and_false (d == quote) in
    let slashed = and_false (d == 92) in
    rw (no_quote, no_feed, quoted, slashed, e) (ap (λ (k : ℕ). Some k) two)

plain_extent : (quote c : ℕ) → (c == 10) ≡ false → (c == quote) ≡ false → (c == 92) ≡ false → (rest : List ℕ) (n : ℕ) → content_len false quote rest ≡ Some n → content_len false quote (c ∷ rest) ≡ Some (1 + n)
plain_extent quote c no_feed no_quote no_slash rest n e =
    let one : suc n ≡ 1 + n = omega arith in
    rw (no_feed, no_quote, no_slash, e) (ap (λ (k : ℕ). Some k) one)

written_escape : (quote d c : ℕ) → is_quote quote ≡ true → escape_of d ≡ Some c → (d == 10) ≡ false → nat_lt d 128 ≡ true → IsWritten quote c (92 ∷ d ∷ [])
written_escape quote d c q escapes no_feed low = record {
  first = λ rest. escape_first quote d c rest escapes;
  extent = λ rest n e. escape_extent quote d (no_backslash quote q) no_feed rest n e;
  low = rw low refl;
}

pub character_written : (quote c : ℕ) → is_quote quote ≡ true → is_character c ≡ true → IsWritten quote c (character_text quote c)
character_written quote c q h = sort (c == 10) (c == 9) (c == 92 || c == quote) refl refl refl
  where
    by_print : (c == 10) ≡ false → (c == 9) ≡ false → ((nat_le 32 c && nat_le c 126) ≡ true) ⊎ ((c == 10 || c == 9) ≡ true) → (nat_le 32 c && nat_le c 126) ≡ true
    by_print e f (inl printable) = printable
    by_print e f (inr other) = let none = rw (e, f) at other in absurd cc

    low_self : (nat_le 32 c && nat_le c 126) ≡ true → nat_lt c 128 ≡ true
    low_self p = grind (arith, nat_tests)

    sort : (x y z : Bool) → (c == 10) ≡ x → (c == 9) ≡ y → (c == 92 || c == quote) ≡ z → IsWritten quote c (cond x (92 ∷ 110 ∷ []) (cond y (92 ∷ 116 ∷ []) (cond z (92 ∷ c ∷ []) (c ∷ []))))
    sort true y z e f g = written_escape quote 110 c q (ap (λ (k : ℕ). Some k) (sym (eqb-true c 10 e))) refl refl
    sort false true z e f g = written_escape quote 116 c q (ap (λ (k : ℕ). Some k) (sym (eqb-true c 9 f))) refl refl
    sort false false true e f g = written_escape quote c c q (self_escape quote c q g) e (low_self (by_print e f (or_cases (nat_le 32 c && nat_le c 126) (c == 10 || c == 9) h)))
    sort false false false e f g =
        let printable = by_print e f (or_cases (nat_le 32 c && nat_le c 126) (c == 10 || c == 9) h) in
        let others = or_parts (c == 92) (c == quote) g in
        let low = low_self printable in
        let is_itself : is_plain quote c ≡ true = and_from (nat_le 32 c && nat_le c 126) (not (c == 92 || c == quote)) printable (rw g refl) in
        record {
          first = λ rest. plain_first quote c rest is_itself;
          extent = λ rest n k. plain_extent quote c e others.1 others.0 rest n k;
          low = rw low refl;
        }

-- ---- a literal

pub record IsContent (quote : ℕ) (codes content : List ℕ) : Type 0 where
  pub spells : Spells quote content codes
  pub extent : content_len false quote (content ++ quote ∷ []) ≡ Some (length content)
  pub low : list_all (λ d. nat_lt d 128) content ≡ true

closing : (quote : ℕ) → is_quote quote ≡ true → content_len false quote (quote ∷ []) ≡ Some 0
closing quote q = by_quote (or_cases (quote == 39) (quote == 34) q)
  where
    by_quote : ((quote == 39) ≡ true) ⊎ ((quote == 34) ≡ true) → content_len false quote (quote ∷ []) ≡ Some 0
    by_quote (inl e) = subst (λ n. content_len false n (n ∷ []) ≡ Some 0) (sym (eqb-true quote 39 e)) refl
    by_quote (inr e) = subst (λ n. content_len false n (n ∷ []) ≡ Some 0) (sym (eqb-true quote 34 e)) refl

content_written : (quote : ℕ) (codes : List ℕ) → is_quote quote ≡ true → list_all is_character codes ≡ true → IsContent quote codes (flat_map (character_text quote) codes)
content_written quote [] q all = record { spells = refl; extent = closing quote q; low = refl }
content_written quote (c ∷ codes) q all =
    let parts = and_parts (is_character c) (list_all is_character codes) all in
    let here = character_written quote c q parts.0 in
    let others = content_written quote codes q parts.1 in
    let text = character_text quote c in
    let rest = flat_map (character_text quote) codes in
    record {
      spells = (rest, here.first rest, others.spells);
      extent = ap (content_len false quote) (append_assoc text rest (quote ∷ [])) ∙ here.extent (rest ++ quote ∷ []) (length rest) others.extent ∙ ap (λ (k : ℕ). Some k) (sym (length-append text rest));
      low = list_all-append (λ d. nat_lt d 128) text rest ∙ and_from _ _ here.low others.low;
    }

pub record IsQuoted (quote : ℕ) (codes word : List ℕ) : Type 0 where
  pub literal : is_literal quote word ≡ true
  pub spells : Spells quote (content_of word) codes
  pub low : list_all (λ d. nat_lt d 128) word ≡ true

quote_low : (quote : ℕ) → is_quote quote ≡ true → nat_lt quote 128 ≡ true
quote_low quote q = grind (arith, nat_tests)

quoted : (quote : ℕ) (codes content : List ℕ) → is_quote quote ≡ true → IsContent quote codes content → IsQuoted quote codes (quote ∷ (content ++ quote ∷ []))
quoted quote codes content q inside = record {
  literal = literal_from quote quote (content ++ quote ∷ []) (length content) (eq-eqb quote quote refl) inside.extent (omega (arith, length-append content (quote ∷ [])));
  spells = subst (λ (l : List ℕ). Spells quote l codes) (sym (take_at content (quote ∷ []) _ (omega (arith, length-append content (quote ∷ []))))) inside.spells;
  low = and_from _ _ (quote_low quote q) (list_all-append (λ d. nat_lt d 128) content (quote ∷ []) ∙ and_from _ _ inside.low (let low = quote_low quote q in rw low refl));
}

-- ---- a token of each kind

-- a text that begins with a blank
abbrev pub begins_blank : List ℕ → Bool
begins_blank [] = false
begins_blank (c ∷ cs) = is_blank c

pub record IsSpelled (kind : TokenKind) (word : List ℕ) : Type 0 where
  pub longest : (rest : List ℕ) → begins_blank rest ≡ true → IsLongest word rest
  pub means : Means word kind
  pub low : list_all (λ d. nat_lt d 128) word ≡ true

name_byte_low : (c : ℕ) → is_name_byte c ≡ true → nat_lt c 128 ≡ true
name_byte_low c h = grind (arith, nat_tests)

letter_low : (c : ℕ) → is_ascii_alphabetic c ≡ true → nat_lt c 128 ≡ true
letter_low c h = grind (arith, nat_tests)

all_low : (p : ℕ → Bool) → ((c : ℕ) → p c ≡ true → nat_lt c 128 ≡ true) → (cs : List ℕ) → list_all p cs ≡ true → list_all (λ d. nat_lt d 128) cs ≡ true
all_low p low [] h = refl
all_low p low (c ∷ cs) h = let parts = and_parts (p c) (list_all p cs) h in and_from _ _ (low c parts.0) (all_low p low cs parts.1)

word_low : (word : List ℕ) → is_word word ≡ true → list_all (λ d. nat_lt d 128) word ≡ true
word_low [] w = absurd cc
word_low (c ∷ cs) w =
    let parts = and_parts (is_ascii_alphabetic c) (list_all is_name_byte cs) w in
    and_from _ _ (letter_low c parts.0) (all_low is_name_byte name_byte_low cs parts.1)

digit_low : (c : ℕ) → is_ascii_digit c ≡ true → nat_lt c 128 ≡ true
digit_low c h = grind (arith, nat_tests)

digit_from_value : (c : ℕ) → digit_value c < 10 → is_ascii_digit c ≡ true
digit_from_value c h = grind (arith, nat_tests)

all_digits : (cs : List ℕ) → AllDigits 10 cs → list_all is_ascii_digit cs ≡ true
all_digits [] h = refl
all_digits (c ∷ cs) h = and_from _ _ (digit_from_value c h.0) (all_digits cs h.1)

numeral_from_digits : (cs : List ℕ) → 0 < length cs → list_all is_ascii_digit cs ≡ true → is_numeral cs ≡ true
numeral_from_digits [] some h = absurd (omega arith)
numeral_from_digits (c ∷ cs) some h = h

-- a blank ends a word and a numeral
blank_no_name : (c : ℕ) → is_blank c ≡ true → is_name_byte c ≡ false
blank_no_name c h = grind (arith, nat_tests)

ends_word : (rest : List ℕ) → begins_blank rest ≡ true → stops is_name_byte rest ≡ true
ends_word [] h = absurd cc
ends_word (c ∷ cs) h = let no = blank_no_name c h in rw no refl

blank_no_digit : (c : ℕ) → is_blank c ≡ true → is_ascii_digit c ≡ false
blank_no_digit c h = grind (arith, nat_tests)

ends_numeral : (rest : List ℕ) → begins_blank rest ≡ true → stops is_ascii_digit rest ≡ true
ends_numeral [] h = absurd cc
ends_numeral (c ∷ cs) h = let no = blank_no_digit c h in rw no refl

decimal_spelled : (n : ℕ) → n < 2 ^ 63 → IsSpelled (Number (pos n)) (decimal n)
decimal_spelled n below =
    let numeral = decimal_is_IsNumeral n (omega arith) in
    let digits = all_digits (decimal n) numeral.0.1 in
    let is = numeral_from_digits (decimal n) numeral.0.0 digits in
    let value = numeral.1 in
    record {
      longest = λ rest blank. numeral_longest (decimal n) rest is (ends_numeral rest blank);
      means = (is, rw value below, ap pos (sym value));
      low = all_low is_ascii_digit digit_low (decimal n) digits;
    }

-- no symbol has a blank
no_blank : (word : List ℕ) → is_some (symbol_of word) ≡ true → list_all (λ c. not (is_blank c)) word ≡ true
unfolding symbol_of
no_blank word found = entry_passes (list_all (λ c. not (is_blank c))) symbols word refl found

sign_spelled : (s : Symbol) → IsSpelled (Sign s) (symbol_text s)
sign_spelled s = record {
  longest = λ rest blank. sign_longest (symbol_text s) rest (ap is_some (symbol_back s)) (no_more rest blank);
  means = symbol_back s;
  low = symbol_low s;
}
  where
    no_more : (rest : List ℕ) → begins_blank rest ≡ true → (d : ℕ) (m : List ℕ) → rest ≡ d ∷ m → is_some (symbol_of (symbol_text s ++ d ∷ [])) ≡ true → ⊥
    no_more rest blank d m e found =
        let at : is_blank d ≡ true = subst (λ (l : List ℕ). begins_blank l ≡ true) e blank in
        not_true (is_blank d) (all_seam (λ c. not (is_blank c)) (symbol_text s) d [] (no_blank (symbol_text s ++ d ∷ []) found)) at

pub sound_spelled : (kind : TokenKind) → IsSound kind → IsSpelled kind (spelling_of kind)
sound_spelled (Name name) sound = record { longest = λ rest blank. word_longest name rest sound.0 (ends_word rest blank); means = (sound.0, sound.1, refl); low = word_low name sound.0 }
sound_spelled (Number value) sound = subst (λ v. IsSpelled (Number v) (signed_decimal v)) (sym sound.2) (decimal_spelled sound.0 sound.1)
sound_spelled (Char code) sound =
    let inside = character_written 39 code refl sound in
    let content : IsContent 39 (code ∷ []) (character_text 39 code) = record {
      spells = ([], subst (λ (l : List ℕ). first_character 39 l ≡ Some (code, [])) (append-nil (character_text 39 code)) (inside.first []), refl);
      extent = inside.extent (39 ∷ []) 0 refl ∙ ap (λ (k : ℕ). Some k) (let e : length (character_text 39 code) + 0 ≡ length (character_text 39 code) = omega arith in e);
      low = inside.low;
    } in
    let word = quoted 39 (code ∷ []) (character_text 39 code) refl content in
    record { longest = λ rest blank. literal_longest 39 _ rest refl word.literal; means = (word.literal, word.spells); low = word.low }
sound_spelled (Text text) sound =
    let word = quoted 34 text (flat_map (character_text 34) text) refl (content_written 34 text refl sound) in
    record { longest = λ rest blank. literal_longest 34 _ rest refl word.literal; means = (word.literal, word.spells); low = word.low }
sound_spelled (Key keyword) sound =
    let word = keyword_word keyword in
    record { longest = λ rest blank. word_longest (keyword_text keyword) rest word (ends_word rest blank); means = (word, keyword_back keyword); low = word_low (keyword_text keyword) word }
sound_spelled (Sign symbol) sound = sign_spelled symbol

-- ---- all of them

-- a lexeme begins with no blank, and with no `#`
abbrev begins_gap : ℕ → Bool
begins_gap c = is_blank c || c == 35

letter_no_gap : (c : ℕ) → is_ascii_alphabetic c ≡ true → begins_gap c ≡ false
letter_no_gap c h = grind (arith, nat_tests)

digit_no_gap : (c : ℕ) → is_ascii_digit c ≡ true → begins_gap c ≡ false
digit_no_gap c h = grind (arith, nat_tests)

abbrev no_gap_first : List ℕ → Bool
no_gap_first [] = true
no_gap_first (c ∷ cs) = not (begins_gap c)

sign_no_gap : (word : List ℕ) → is_some (symbol_of word) ≡ true → no_gap_first word ≡ true
unfolding symbol_of
sign_no_gap word found = entry_passes no_gap_first symbols word refl found

lexeme_no_gap : (c : ℕ) (cs : List ℕ) → is_lexeme (c ∷ cs) ≡ true → begins_gap c ≡ false
lexeme_no_gap c cs l = by_shape (shaped (c ∷ cs) l)
  where
    at : (quote : ℕ) → begins_gap quote ≡ false → is_literal quote (c ∷ cs) ≡ true → begins_gap c ≡ false
    at quote none t = subst (λ (n : ℕ). begins_gap n ≡ false) (sym (eqb-true c quote (and_parts (c == quote) (is_last (content_len false quote cs) (length cs)) t).0)) none

    by_shape : IsShaped (c ∷ cs) → begins_gap c ≡ false
    by_shape (a_word w) = letter_no_gap c (and_parts (is_ascii_alphabetic c) (list_all is_name_byte cs) w).0
    by_shape (a_numeral n) = digit_no_gap c (and_parts (is_ascii_digit c) (list_all is_ascii_digit cs) n).0
    by_shape (a_sign s) = not-true _ (sign_no_gap (c ∷ cs) s)
    by_shape (a_char t) = at 39 refl t
    by_shape (a_string t) = at 34 refl t

pub no_gap : (word rest : List ℕ) → is_lexeme word ≡ true → after_gap (word ++ rest) ≡ word ++ rest
no_gap [] rest l = absurd (omega (arith, no_empty_lexeme [] l))
no_gap (c ∷ cs) rest l =
    let none = or_parts (is_blank c) (c == 35) (lexeme_no_gap c cs l) in
    rw (none.0, none.1) refl

-- what is behind a token, and the same text by recursion
abbrev behind_of : List TokenKind → List ℕ
behind_of [] = 10 ∷ []
behind_of (kind ∷ kinds) = 32 ∷ (spelling_of kind ++ behind_of kinds)

behind_blank : (kinds : List TokenKind) → begins_blank (behind_of kinds) ≡ true
behind_blank [] = refl
behind_blank (kind ∷ kinds) = refl

abbrev text_of : List TokenKind → List ℕ
text_of [] = 10 ∷ []
text_of (kind ∷ kinds) = spelling_of kind ++ behind_of kinds

joined_is : (kind : TokenKind) (kinds : List TokenKind) → written (kind ∷ kinds) ≡ text_of (kind ∷ kinds)
joined_is kind [] = refl
joined_is kind (next ∷ kinds) =
    append_assoc (spelling_of kind) (32 ∷ join_with_byte 32 (map spelling_of (next ∷ kinds))) (10 ∷ []) ∙ ap (λ (l : List ℕ). spelling_of kind ++ 32 ∷ l) (joined_is next kinds)

text_is : (kinds : List TokenKind) → written kinds ≡ text_of kinds
text_is [] = refl
text_is (kind ∷ kinds) = joined_is kind kinds

behind_low : (kinds : List TokenKind) → AllByRecursion IsSound kinds → list_all (λ d. nat_lt d 128) (behind_of kinds) ≡ true
behind_low [] sound = refl
behind_low (kind ∷ kinds) sound = list_all-append (λ d. nat_lt d 128) (spelling_of kind) (behind_of kinds) ∙ and_from _ _ (sound_spelled kind sound.0).low (behind_low kinds sound.1)

text_low : (kinds : List TokenKind) → AllByRecursion IsSound kinds → list_all (λ d. nat_lt d 128) (text_of kinds) ≡ true
text_low [] sound = refl
text_low (kind ∷ kinds) sound = behind_low (kind ∷ kinds) sound

ascii_from_low : (bytes : List ℕ) → list_all (λ d. nat_lt d 128) bytes ≡ true → IsAscii bytes
ascii_from_low [] h = IsAscii-nil
ascii_from_low (b ∷ bytes) h = let parts = and_parts (nat_lt b 128) (list_all (λ d. nat_lt d 128) bytes) h in IsAscii-cons b bytes (ltb-true b 128 parts.0) (ascii_from_low bytes parts.1)

pub record AreReadFrom (text : List ℕ) (from : ℕ) (kinds : List TokenKind) : Type 0 where
  pub tokens : List Token
  pub follow : Follow text from tokens
  pub over : after_gap (drop (end_of from tokens) text) ≡ []
  pub kinds_are : map (λ token. token.kind) tokens ≡ kinds

-- a space, or nothing
abbrev pub lead_of : Bool → List ℕ
lead_of true = 32 ∷ []
lead_of false = []

-- where the token behind a lead ends, and that it begins the text there
pub record IsNext (text : List ℕ) (from : ℕ) (token : Token) (rest : List ℕ) : Type 0 where
  pub begins : Begins text from token
  pub left : drop token.end text ≡ rest

abbrev next_token : List ℕ → ℕ → Bool → TokenKind → Token
next_token text from lead kind =
    let start = from + length (lead_of lead) in
    record { kind = kind; start = start; end = start + length (spelling_of kind); at = place_in text start }

is_next : (text : List ℕ) (from : ℕ) (lead : Bool) (kind : TokenKind) (rest : List ℕ) → IsSound kind → from ≤ length text → drop from text ≡ lead_of lead ++ (spelling_of kind ++ rest) → begins_blank rest ≡ true → IsNext text from (next_token text from lead kind) rest
is_next text from lead kind rest sound within e blank = record {
  begins = record {
    gap = at_start ∙ sym (no_gap word rest (spelled_as.longest rest blank).lexeme) ∙ sym (ap after_gap e ∙ by_lead lead);
    within = omega (arith, ap length e, length-append (lead_of lead) (word ++ rest), length-append word rest, length-drop from text);
    longest = rw (slice, behind) (spelled_as.longest rest blank);
    means = rw slice spelled_as.means;
    place = refl;
  };
  left = behind;
}
  where
    word : List ℕ
    word = spelling_of kind

    spelled_as : IsSpelled kind word
    spelled_as = sound_spelled kind sound

    start : ℕ
    start = from + length (lead_of lead)

    by_lead : (b : Bool) → after_gap (lead_of b ++ (word ++ rest)) ≡ after_gap (word ++ rest)
    by_lead true = refl
    by_lead false = refl

    at_start : drop start text ≡ word ++ rest
    at_start = sym (drop-drop (length (lead_of lead)) from text) ∙ ap (drop (length (lead_of lead))) e ∙ drop_at (lead_of lead) (word ++ rest) (length (lead_of lead)) refl

    len : start + length word - start ≡ length word
    len = omega arith

    slice : slice_range text start (start + length word) ≡ word
    slice = (λ i. take (len i) (at_start i)) ∙ take_at word rest (length word) refl

    behind : drop (start + length word) text ≡ rest
    behind = sym (drop-drop (length word) start text) ∙ ap (drop (length word)) at_start ∙ drop_at word rest (length word) refl

-- behind a token
reads_behind : (text : List ℕ) (from : ℕ) (kinds : List TokenKind) → AllByRecursion IsSound kinds → from ≤ length text → drop from text ≡ behind_of kinds → AreReadFrom text from kinds
reads_behind text from [] sound within left = record { tokens = []; follow = tt; over = ap after_gap left; kinds_are = refl }
reads_behind text from (kind ∷ kinds) sound within left =
    let next = is_next text from true kind (behind_of kinds) sound.0 within left (behind_blank kinds) in
    let others = reads_behind text (next_token text from true kind).end kinds sound.1 next.begins.within next.left in
    record {
      tokens = next_token text from true kind ∷ others.tokens;
      follow = (next.begins, others.follow);
      over = others.over;
      kinds_are = λ i. kind ∷ others.kinds_are i;
    }

reads_text : (kinds : List TokenKind) → AllByRecursion IsSound kinds → AreReadFrom (text_of kinds) 0 kinds
reads_text [] sound = record { tokens = []; follow = tt; over = refl; kinds_are = refl }
reads_text (kind ∷ kinds) sound =
    let text = text_of (kind ∷ kinds) in
    let next = is_next text 0 false kind (behind_of kinds) sound.0 (omega arith) refl (behind_blank kinds) in
    let others = reads_behind text (next_token text 0 false kind).end kinds sound.1 next.begins.within next.left in
    record {
      tokens = next_token text 0 false kind ∷ others.tokens;
      follow = (next.begins, others.follow);
      over = others.over;
      kinds_are = λ i. kind ∷ others.kinds_are i;
    }

pub reads_back : (kinds : List TokenKind) → AllByRecursion IsSound kinds → AreReadBack kinds
reads_back kinds sound = record {
  tokens = found.tokens;
  are = subst (λ (text : List ℕ). Tokens text found.tokens) (sym (text_is kinds)) (record { utf8 = IsUtf8-from_ascii (text_of kinds) (ascii_from_low (text_of kinds) (text_low kinds sound)); follow = found.follow; over = found.over });
  kinds_are = found.kinds_are;
}
  where
    found : AreReadFrom (text_of kinds) 0 kinds
    found = reads_text kinds sound
