-- The text of a text's tokens, written anew, is at most twice as long as the text, and a byte.
use Rattle.std.proofs.Common.{◌≡◌, ℕ, ◌-◌, ◌*◌, ◌+◌, ◌<◌, ◌≤◌, ◌^◌, Bool, true, false, cond, List, [], ◌∷◌, map, length, drop, Option, Some, None, refl, ap, arith, length-append, length-take, length-drop}
use Rattle.std.specs.Prelude.{◌==◌, nat_le, ◌&&◌, ◌||◌, slice_range, decimal}
use Rattle.std.specs.Fmt.{signed_decimal}
use Rattle.std.specs.Char.{is_ascii_digit, digit_value}
use Rattle.std.specs.List.{list_all, flat_map, join_with_byte}
use Rattle.std.specs.Str.{bytes_eq}
use Rattle.std.specs.Str.Parse.{AllDigits, digits_value}
use Rattle.std.proofs.lemmas.Bool.{and_parts}
use Rattle.std.proofs.lemmas.Bool.Decides.{nat_tests}
use Rattle.std.proofs.lemmas.Fmt.{length-decimal-le}
use Rattle.std.proofs.lemmas.Int.Digits.{digits_value-lt}
use Rattle.std.proofs.lemmas.Slice.Eq.{bytes_eq-Decides}
use Rattle.orca_lexer.specs.declared.token.Keyword.{Keyword}
use Rattle.orca_lexer.specs.declared.token.Symbol.{Symbol}
use Rattle.orca_lexer.specs.declared.token.Token.{Token}
use Rattle.orca_lexer.specs.declared.token.TokenKind.{TokenKind}
use Rattle.orca_lexer.specs.declared.token.TokenKind.TheVariants.{Name, Number, Char, Text, Key, Sign}
use Rattle.orca_lexer.specs.Contents.{first_character, Spells, is_plain}
use Rattle.orca_lexer.specs.Shapes.{is_numeral, is_literal, is_last, content_len, content_of, is_lexeme}
use Rattle.orca_lexer.specs.Spelling.{character_text, keyword_text, symbol_text, spelling_of, written}
use Rattle.orca_lexer.specs.Tables.{entry_of, keywords, keyword_of, symbols, symbol_of}
use Rattle.orca_lexer.specs.Tokens.{Means, Follow, Tokens, after_gap, after_comment, is_blank}
use Rattle.orca_lexer.proofs.LiteralLemmas.{FirstIs, first_is, plain_byte}
use Rattle.orca_lexer.proofs.LiteralLemmas.FirstIs.{plain, escape}
use Rattle.orca_lexer.proofs.Longest.{no_empty_lexeme}

-- ---- literals

-- a character takes two bytes at most, and one that stands for itself takes one
character_two : (quote c : ℕ) → length (character_text quote c) ≤ 2
character_two quote c = sort (c == 10) (c == 9) (c == 92 || c == quote)
  where
    sort : (x y z : Bool) → length (cond x (92 ∷ 110 ∷ []) (cond y (92 ∷ 116 ∷ []) (cond z (92 ∷ c ∷ []) (c ∷ [])))) ≤ 2
    sort true y z = omega arith
    sort false true z = omega arith
    sort false false true = omega arith
    sort false false false = omega arith

not_low : (c d : ℕ) → d < c → (c == d) ≡ false
not_low c d lt = grind (arith, nat_tests)

plain_one : (quote c : ℕ) → is_plain quote c ≡ true → length (character_text quote c) ≤ 1
plain_one quote c h =
    let byte = plain_byte quote c h in
    let low = byte.low in
    sort (c == 10) (c == 9) (c == 92) (c == quote) (not_low c 10 (omega arith)) (not_low c 9 (omega arith)) byte.no_backslash byte.no_quote
  where
    sort : (x y z w : Bool) → x ≡ false → y ≡ false → z ≡ false → w ≡ false → length (cond x (92 ∷ 110 ∷ []) (cond y (92 ∷ 116 ∷ []) (cond (z || w) (92 ∷ c ∷ []) (c ∷ [])))) ≤ 1
    sort false false false false _ _ _ _ = omega arith
    sort true y z w e _ _ _ = absurd cc
    sort false true z w _ e _ _ = absurd cc
    sort false false true w _ _ e _ = absurd cc
    sort false false false true _ _ _ e = absurd cc

first_long : (quote : ℕ) (content : List ℕ) (code : ℕ) (rest : List ℕ) → first_character quote content ≡ Some (code, rest) → length (character_text quote code) + length rest ≤ length content
first_long quote content code rest e = by_first (first_is quote content code rest e)
  where
    by_first : FirstIs quote content code rest → length (character_text quote code) + length rest ≤ length content
    by_first (plain is h) = omega (arith, plain_one quote code h, ap length is)
    by_first (escape c is h) = omega (arith, character_two quote code, ap length is)

spells_long : (quote : ℕ) (content codes : List ℕ) → Spells quote content codes → length (flat_map (character_text quote) codes) ≤ length content
spells_long quote content [] h = omega arith
spells_long quote content (c ∷ codes) h =
    omega (arith, first_long quote content c h.0 h.1, spells_long quote h.0 codes h.2, length-append (character_text quote c) (flat_map (character_text quote) codes))

literal_two : (quote : ℕ) (word : List ℕ) → is_literal quote word ≡ true → 2 ≤ length word
literal_two quote [] h = absurd cc
literal_two quote (c ∷ cs) h = by_len (content_len false quote cs) (and_parts (c == quote) (is_last (content_len false quote cs) (length cs)) h).1
  where
    by_len : (n : Option ℕ) → is_last n (length cs) ≡ true → 2 ≤ length (c ∷ cs)
    by_len None e = absurd cc
    by_len (Some n) e = grind (arith, nat_tests)

quoted_long : (quote : ℕ) (word codes : List ℕ) → is_literal quote word ≡ true → Spells quote (content_of word) codes → 2 + length (flat_map (character_text quote) codes) ≤ length word
quoted_long quote word codes h s =
    omega (arith, literal_two quote word h, spells_long quote (content_of word) codes s, length-take (length word - 2) (drop 1 word), length-drop 1 word)

-- ---- words of a table

abbrev AreLong : {X : Type 0} → (X → List ℕ) → List (List ℕ × X) → Bool
AreLong text [] = true
AreLong text (e ∷ es) = nat_le (length (text e.1)) (length e.0) && AreLong text es

entry_long : {X : Type 0} (text : X → List ℕ) (es : List (List ℕ × X)) (word : List ℕ) (x : X) → AreLong text es ≡ true → entry_of es word ≡ Some x → length (text x) ≤ length word
entry_long text [] word x all found = absurd cc
entry_long {X = X} text (e ∷ es) word x all found = by_test (bytes_eq e.0 word) refl (entry_long text es word x parts.1)
  where
    parts : (nat_le (length (text e.1)) (length e.0) ≡ true) × (AreLong text es ≡ true)
    parts = and_parts (nat_le (length (text e.1)) (length e.0)) (AreLong text es) all

    long : length (text e.1) ≤ length e.0
    long = let p = parts.0 in grind (arith, nat_tests)

    by_test : (b : Bool) → bytes_eq e.0 word ≡ b → (entry_of es word ≡ Some x → length (text x) ≤ length word) → length (text x) ≤ length word
    by_test true is others =
        let value : Some e.1 ≡ Some x = rw is at found in
        let same : e.1 ≡ x = cc in
        omega (arith, long, ap (λ y. length (text y)) same, ap length ((bytes_eq-Decides e.0 word).0 is))
    by_test false is others = others (rw is at found)

keyword_long : (word : List ℕ) (k : Keyword) → keyword_of word ≡ Some k → length (keyword_text k) ≤ length word
unfolding keyword_of
keyword_long word k found = entry_long keyword_text keywords word k refl found

symbol_long : (word : List ℕ) (s : Symbol) → symbol_of word ≡ Some s → length (symbol_text s) ≤ length word
unfolding symbol_of
symbol_long word s found = entry_long symbol_text symbols word s refl found

-- ---- numerals

all_digits : (cs : List ℕ) → list_all is_ascii_digit cs ≡ true → AllDigits 10 cs
all_digits [] h = tt
all_digits (c ∷ cs) h = let parts = and_parts (is_ascii_digit c) (list_all is_ascii_digit cs) h in (digit c parts.0, all_digits cs parts.1)
  where
    digit : (c : ℕ) → is_ascii_digit c ≡ true → digit_value c < 10
    digit c t = grind (arith, nat_tests)

numeral_all : (word : List ℕ) → is_numeral word ≡ true → list_all is_ascii_digit word ≡ true
numeral_all [] h = absurd cc
numeral_all (c ∷ cs) h = h

numeral_long : (word : List ℕ) → is_numeral word ≡ true → digits_value 10 word < 2 ^ 63 → 0 < length word → length (decimal (digits_value 10 word)) ≤ length word
numeral_long word h small some = length-decimal-le (length word) (digits_value 10 word) some (digits_value-lt 10 word (all_digits word (numeral_all word h))) (omega arith)

-- ---- a token is written no longer than it stood

pub lexeme_long : (word : List ℕ) (k : TokenKind) → is_lexeme word ≡ true → Means word k → length (spelling_of k) ≤ length word
lexeme_long word (Name name) l m = omega (arith, ap length m.2)
lexeme_long word (Number value) l m = omega (arith, numeral_long word m.0 m.1 (no_empty_lexeme word l), ap (λ z. length (signed_decimal z)) m.2)
lexeme_long word (Char code) l m = omega (arith, quoted_long 39 word (code ∷ []) m.0 m.1, length-append (character_text 39 code) (39 ∷ []), length-append (character_text 39 code) [])
lexeme_long word (Text text) l m = omega (arith, quoted_long 34 word text m.0 m.1, length-append (flat_map (character_text 34) text) (34 ∷ []))
lexeme_long word (Key k) l m = keyword_long word k m.1
lexeme_long word (Sign s) l m = symbol_long word s m

-- ---- what is left behind a gap is no longer

gap_step : (c : ℕ) (cs : List ℕ) → length (after_gap cs) ≤ length cs → length (after_comment cs) ≤ length cs → length (after_gap (c ∷ cs)) ≤ length (c ∷ cs)
gap_step c cs p q = by_blank (is_blank c) (c == 35)
  where
    by_blank : (b d : Bool) → length (cond b (after_gap cs) (cond d (after_comment cs) (c ∷ cs))) ≤ length (c ∷ cs)
    by_blank true d = omega arith
    by_blank false true = omega arith
    by_blank false false = omega arith

comment_step : (c : ℕ) (cs : List ℕ) → length (after_gap cs) ≤ length cs → length (after_comment cs) ≤ length cs → length (after_comment (c ∷ cs)) ≤ length (c ∷ cs)
comment_step c cs p q = by_end (c == 10)
  where
    by_end : (b : Bool) → length (cond b (after_gap cs) (after_comment cs)) ≤ length (c ∷ cs)
    by_end true = omega arith
    by_end false = omega arith

mutual
  pub gap_length : (text : List ℕ) → length (after_gap text) ≤ length text
  gap_length [] = omega arith
  gap_length (c ∷ cs) = gap_step c cs (gap_length cs) (comment_length cs)

  comment_length : (text : List ℕ) → length (after_comment text) ≤ length text
  comment_length [] = omega arith
  comment_length (c ∷ cs) = comment_step c cs (gap_length cs) (comment_length cs)

-- ---- all tokens

-- the bytes of these kinds, and one behind each
abbrev room : List TokenKind → ℕ
room [] = 0
room (k ∷ ks) = length (spelling_of k) + 1 + room ks

joined_long : (ks : List TokenKind) → length (join_with_byte 32 (map spelling_of ks)) ≤ room ks
joined_long [] = omega arith
joined_long (k ∷ []) = omega arith
joined_long (k ∷ l ∷ ks) = omega (arith, joined_long (l ∷ ks), length-append (spelling_of k) (32 ∷ join_with_byte 32 (map spelling_of (l ∷ ks))))

slice_long : (text word : List ℕ) (start end : ℕ) → word ≡ slice_range text start end → end ≤ length text → length word ≤ end - start
slice_long text word start end is within = omega (arith, ap length is, length-take (end - start) (drop start text), length-drop start text)

follow_long : (text : List ℕ) (from : ℕ) (ts : List Token) → Follow text from ts → room (map (λ t. t.kind) ts) ≤ 2 * (length text - from)
follow_long text from [] f = omega arith
follow_long text from (t ∷ ts) f =
    let b = f.0 in
    let here = lexeme_long (slice_range text t.start t.end) t.kind b.longest.lexeme b.means in
    let some = no_empty_lexeme (slice_range text t.start t.end) b.longest.lexeme in
    let long = slice_long text (slice_range text t.start t.end) t.start t.end refl b.within in
    let rest = follow_long text t.end ts f.1 in
    omega (arith, ap length b.gap, gap_length (drop from text), length-drop from text, length-drop t.start text)

pub written_long : (text : List ℕ) (ts : List Token) → Tokens text ts → length (written (map (λ t. t.kind) ts)) ≤ 2 * length text + 1
written_long text ts h =
    let ks = map (λ t. t.kind) ts in
    omega (arith, joined_long ks, follow_long text 0 ts h.follow, length-append (join_with_byte 32 (map spelling_of ks)) (10 ∷ []))
