-- A text that is laid out: tokens one after the other, with blanks in front of each, and a line feed at the end. It has these tokens.
use Rattle.std.proofs.Common.{◌⊎◌, ◌≡◌, ℕ, ◌-◌, ◌+◌, ◌≤◌, Bool, true, false, not, ◌||◌, ◌&&◌, List, [], ◌∷◌, ◌++◌, map, length, take, drop, refl, sym, ap, ◌∙◌, subst, inl, inr, arith, length-append, length-drop}
use Rattle.std.specs.Prelude.{slice_range, is_some, nat_lt, ◌==◌, Option, Some, None}
use Rattle.std.specs.Fmt.{signed_decimal}
use Rattle.std.specs.List.{list_all}
use Rattle.std.specs.Str.{IsAscii}
use Rattle.std.proofs.lemmas.Bool.{and_parts, and_from, or_cases, eqb-true, ltb-true, not-true}
use Rattle.std.proofs.lemmas.Bool.Decides.{nat_tests}
use Rattle.std.proofs.lemmas.List.{take_at, drop_at, drop-drop}
use Rattle.std.proofs.lemmas.List.Folds.{list_all-append}
use Rattle.std.proofs.lemmas.Str.{IsUtf8-from_ascii}
use Rattle.std.proofs.lemmas.Str.Ascii.{IsAscii-nil, IsAscii-cons}
use Rattle.std.specs.Char.{is_ascii_digit}
use Rattle.orca_lexer.specs.declared.token.Token.{Token}
use Rattle.orca_lexer.specs.declared.token.TokenKind.{TokenKind}
use Rattle.orca_lexer.specs.declared.token.TokenKind.TheVariants.{Name, Number, Char, Text, Key, Sign}
use Rattle.orca_lexer.specs.Tables.{keyword_of, symbol_of}
use Rattle.orca_lexer.specs.Shapes.{is_name_byte, is_word}
use Rattle.orca_lexer.specs.Tokens.{is_blank, IsLongest, Begins, Follow, Tokens, end_of, after_gap, place_in}
use Rattle.orca_lexer.specs.Spelling.{keyword_text, symbol_text, spelling_of, IsSound}
use Rattle.orca_lexer.proofs.Longest.{stops, word_longest, numeral_longest, sign_longest, sign_short}
use Rattle.orca_lexer.proofs.ReadsBack.{no_gap, sound_spelled}
use Rattle.orca_lexer.proofs.TextsBack.{symbol_back}

-- a token, and the blanks in front of it
abbrev pub Piece : Type 0
Piece = List ℕ × TokenKind

abbrev pub laid_out : List Piece → List ℕ
laid_out [] = 10 ∷ []
laid_out (p ∷ ps) = p.0 ++ (spelling_of p.1 ++ laid_out ps)

-- ---- what is asked of them

-- a symbol doesn't go on with the next byte
abbrev ends_sign : List ℕ → List ℕ → Bool
ends_sign word [] = true
ends_sign word (d ∷ m) = not (is_some (symbol_of (word ++ d ∷ [])))

-- the token ends where this is left
abbrev ends : TokenKind → List ℕ → Bool
ends (Name name) rest = stops is_name_byte rest
ends (Key word) rest = stops is_name_byte rest
ends (Number value) rest = stops is_ascii_digit rest
ends (Sign symbol) rest = (length (symbol_text symbol) == 2) || ends_sign (symbol_text symbol) rest
ends (Char code) rest = false
ends (Text text) rest = false

-- a name is one
abbrev is_named : TokenKind → Bool
is_named (Name name) = is_word name && not (is_some (keyword_of name))
is_named (Key word) = true
is_named (Number value) = true
is_named (Sign symbol) = true
is_named (Char code) = true
is_named (Text text) = true

abbrev pub all_fit : List Piece → Bool
all_fit [] = true
all_fit (p ∷ ps) = (list_all is_blank p.0 && (is_named p.1 && ends p.1 (laid_out ps))) && all_fit ps

-- each number among them is one
abbrev with_number : TokenKind → Type 0 → Type 0
with_number (Number value) T = IsSound (Number value) × T
with_number (Name name) T = T
with_number (Key word) T = T
with_number (Sign symbol) T = T
with_number (Char code) T = T
with_number (Text text) T = T

abbrev pub Numbers : List Piece → Type 0
Numbers [] = Unit {0}
Numbers (p ∷ ps) = with_number p.1 (Numbers ps)

-- ---- one token

is_none : {X : Type 0} (o : Option X) → not (is_some o) ≡ true → o ≡ None
is_none None h = refl
is_none (Some x) h = absurd cc

-- it is sound, and the longest
record IsTaken (kind : TokenKind) (rest : List ℕ) (T : Type 0) : Type 0 where
  pub sound : IsSound kind
  pub longest : IsLongest (spelling_of kind) rest
  pub others : T

sign_taken : (word rest : List ℕ) → is_some (symbol_of word) ≡ true → ((length word == 2) || ends_sign word rest) ≡ true → IsLongest word rest
sign_taken word rest found h = sign_longest word rest found (no_more (or_cases (length word == 2) (ends_sign word rest) h))
  where
    no_more : ((length word == 2) ≡ true) ⊎ (ends_sign word rest ≡ true) → (d : ℕ) (m : List ℕ) → rest ≡ d ∷ m → is_some (symbol_of (word ++ d ∷ [])) ≡ true → ⊥
    no_more (inl two) d m e more =
        let len : length word ≡ 2 = eqb-true (length word) 2 two in
        let short = sign_short (word ++ d ∷ []) more in
        absurd (omega (arith, length-append word (d ∷ [])))
    no_more (inr ends) d m e more =
        let off : not (is_some (symbol_of (word ++ d ∷ []))) ≡ true = subst (λ (l : List ℕ). ends_sign word l ≡ true) e ends in
        absurd (let no = not-true _ off in cc)

taken : (kind : TokenKind) (rest : List ℕ) (T : Type 0) → is_named kind ≡ true → ends kind rest ≡ true → with_number kind T → IsTaken kind rest T
taken (Name name) rest T named end numbers =
    let parts = and_parts (is_word name) (not (is_some (keyword_of name))) named in
    record { sound = (parts.0, is_none (keyword_of name) parts.1); longest = word_longest name rest parts.0 end; others = numbers }
taken (Key word) rest T named end numbers =
    record { sound = tt; longest = word_longest (keyword_text word) rest (sound_spelled (Key word) tt).means.0 end; others = numbers }
taken (Number value) rest T named end numbers =
    record { sound = numbers.0; longest = numeral_longest (signed_decimal value) rest (sound_spelled (Number value) numbers.0).means.0 end; others = numbers.1 }
taken (Sign symbol) rest T named end numbers =
    record { sound = tt; longest = sign_taken (symbol_text symbol) rest (ap is_some (symbol_back symbol)) end; others = numbers }
taken (Char code) rest T named end numbers = absurd cc
taken (Text text) rest T named end numbers = absurd cc

-- blanks are a gap
blank_gap : (c : ℕ) (cs : List ℕ) → is_blank c ≡ true → after_gap (c ∷ cs) ≡ after_gap cs
blank_gap c cs h = rw h refl

blanks_gap : (lead rest : List ℕ) → list_all is_blank lead ≡ true → after_gap (lead ++ rest) ≡ after_gap rest
blanks_gap [] rest h = refl
blanks_gap (c ∷ cs) rest h =
    let parts = and_parts (is_blank c) (list_all is_blank cs) h in
    blank_gap c (cs ++ rest) parts.0 ∙ blanks_gap cs rest parts.1

-- where the token behind blanks ends, and that it begins the text there
record IsNext (text : List ℕ) (from : ℕ) (token : Token) (rest : List ℕ) : Type 0 where
  pub begins : Begins text from token
  pub left : drop token.end text ≡ rest

abbrev next_token : List ℕ → ℕ → Piece → Token
next_token text from p =
    let start = from + length p.0 in
    record { kind = p.1; start = start; end = start + length (spelling_of p.1); at = place_in text start }

is_next : (text : List ℕ) (from : ℕ) (p : Piece) (rest : List ℕ) → list_all is_blank p.0 ≡ true → IsSound p.1 → IsLongest (spelling_of p.1) rest → from ≤ length text →
    drop from text ≡ p.0 ++ (spelling_of p.1 ++ rest) → IsNext text from (next_token text from p) rest
is_next text from p rest blanks sound longest within e = record {
  begins = record {
    gap = at_start ∙ sym (no_gap word rest longest.lexeme) ∙ sym (ap after_gap e ∙ blanks_gap p.0 (word ++ rest) blanks);
    within = omega (arith, ap length e, length-append p.0 (word ++ rest), length-append word rest, length-drop from text);
    longest = rw (slice, behind) longest;
    means = rw slice (sound_spelled p.1 sound).means;
    place = refl;
  };
  left = behind;
}
  where
    word : List ℕ
    word = spelling_of p.1

    start : ℕ
    start = from + length p.0

    at_start : drop start text ≡ word ++ rest
    at_start = sym (drop-drop (length p.0) from text) ∙ ap (drop (length p.0)) e ∙ drop_at p.0 (word ++ rest) (length p.0) refl

    len : start + length word - start ≡ length word
    len = omega arith

    slice : slice_range text start (start + length word) ≡ word
    slice = (λ i. take (len i) (at_start i)) ∙ take_at word rest (length word) refl

    behind : drop (start + length word) text ≡ rest
    behind = sym (drop-drop (length word) start text) ∙ ap (drop (length word)) at_start ∙ drop_at word rest (length word) refl

-- ---- all of them

record AreReadFrom (text : List ℕ) (from : ℕ) (ps : List Piece) : Type 0 where
  pub tokens : List Token
  pub follow : Follow text from tokens
  pub over : after_gap (drop (end_of from tokens) text) ≡ []
  pub kinds : map (λ (t : Token). t.kind) tokens ≡ map (λ (p : Piece). p.1) ps

reads_from : (ps : List Piece) (text : List ℕ) (from : ℕ) → all_fit ps ≡ true → Numbers ps → from ≤ length text → drop from text ≡ laid_out ps → AreReadFrom text from ps
reads_from [] text from fit numbers within left = record { tokens = []; follow = tt; over = ap after_gap left; kinds = refl }
reads_from (p ∷ ps) text from fit numbers within left =
    let both = and_parts (list_all is_blank p.0 && (is_named p.1 && ends p.1 (laid_out ps))) (all_fit ps) fit in
    let first = and_parts (list_all is_blank p.0) (is_named p.1 && ends p.1 (laid_out ps)) both.0 in
    let second = and_parts (is_named p.1) (ends p.1 (laid_out ps)) first.1 in
    let one = taken p.1 (laid_out ps) (Numbers ps) second.0 second.1 numbers in
    let next = is_next text from p (laid_out ps) first.0 one.sound one.longest within left in
    let others = reads_from ps text (next_token text from p).end both.1 one.others next.begins.within next.left in
    record {
      tokens = next_token text from p ∷ others.tokens;
      follow = (next.begins, others.follow);
      over = others.over;
      kinds = λ i. p.1 ∷ others.kinds i;
    }

-- ---- all bytes are ASCII

abbrev is_low : ℕ → Bool
is_low c = nat_lt c 128

blank_low : (c : ℕ) → is_blank c ≡ true → is_low c ≡ true
blank_low c h = grind (arith, nat_tests)

blanks_low : (cs : List ℕ) → list_all is_blank cs ≡ true → list_all is_low cs ≡ true
blanks_low [] h = refl
blanks_low (c ∷ cs) h =
    let parts = and_parts (is_blank c) (list_all is_blank cs) h in
    and_from _ _ (blank_low c parts.0) (blanks_low cs parts.1)

laid_low : (ps : List Piece) → all_fit ps ≡ true → Numbers ps → list_all is_low (laid_out ps) ≡ true
laid_low [] fit numbers = refl
laid_low (p ∷ ps) fit numbers =
    let both = and_parts (list_all is_blank p.0 && (is_named p.1 && ends p.1 (laid_out ps))) (all_fit ps) fit in
    let first = and_parts (list_all is_blank p.0) (is_named p.1 && ends p.1 (laid_out ps)) both.0 in
    let second = and_parts (is_named p.1) (ends p.1 (laid_out ps)) first.1 in
    let one = taken p.1 (laid_out ps) (Numbers ps) second.0 second.1 numbers in
    list_all-append is_low p.0 (spelling_of p.1 ++ laid_out ps)
    ∙ and_from _ _ (blanks_low p.0 first.0)
    (list_all-append is_low (spelling_of p.1) (laid_out ps) ∙ and_from _ _ (sound_spelled p.1 one.sound).low (laid_low ps both.1 one.others))

ascii_from_low : (bytes : List ℕ) → list_all is_low bytes ≡ true → IsAscii bytes
ascii_from_low [] h = IsAscii-nil
ascii_from_low (b ∷ bytes) h =
    let parts = and_parts (nat_lt b 128) (list_all is_low bytes) h in
    IsAscii-cons b bytes (ltb-true b 128 parts.0) (ascii_from_low bytes parts.1)

-- the text has tokens of these kinds
pub record HasKinds (text : List ℕ) (ps : List Piece) : Type 0 where
  pub tokens : List Token
  pub are : Tokens text tokens
  pub kinds : map (λ (t : Token). t.kind) tokens ≡ map (λ (p : Piece). p.1) ps

pub has_kinds : (ps : List Piece) → all_fit ps ≡ true → Numbers ps → HasKinds (laid_out ps) ps
has_kinds ps fit numbers = record {
  tokens = found.tokens;
  are = record { utf8 = IsUtf8-from_ascii (laid_out ps) (ascii_from_low (laid_out ps) (laid_low ps fit numbers)); follow = found.follow; over = found.over };
  kinds = found.kinds;
}
  where
    found : AreReadFrom (laid_out ps) 0 ps
    found = reads_from ps (laid_out ps) 0 fit numbers (omega arith) refl
