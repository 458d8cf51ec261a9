-- The longest lexeme at the front of a text, by its first byte.
use Rattle.std.proofs.Common.{◌≡◌, ℕ, suc, ◌+◌, ◌<◌, ◌≤◌, Bool, true, false, not, ◌||◌, ◌&&◌, List, [], ◌∷◌, ◌++◌, length, take, drop, Option, Some, None, refl, sym, ap, ◌∙◌, subst, inl, inr, ◌⊎◌, arith, length-append}
use Rattle.std.specs.Prelude.{nat_lt, is_some, ◌==◌}
use Rattle.std.specs.List.{list_all, prefix_len}
use Rattle.std.specs.Char.{is_ascii_alphabetic, is_ascii_digit}
use Rattle.std.specs.Str.{bytes_eq}
use Rattle.std.proofs.lemmas.Bool.{or_cases, or_left, or_right, and_parts, and_from, both_ways, eqb-true}
use Rattle.std.proofs.lemmas.Bool.Decides.{nat_tests}
use Rattle.std.proofs.lemmas.Slice.Eq.{bytes_eq-Decides}
use Rattle.orca_lexer.specs.declared.token.Symbol.{Symbol}
use Rattle.orca_lexer.specs.Tables.{entry_of, symbols, symbol_of}
use Rattle.orca_lexer.specs.Shapes.{is_name_byte, is_word, is_numeral, is_quote, content_len, is_last, is_literal, is_lexeme}
use Rattle.orca_lexer.specs.Tokens.{IsLongest, IsStart}

-- ---- kinds of first bytes

letter_not_digit : (c : ℕ) → is_ascii_alphabetic c ≡ true → is_ascii_digit c ≡ true → ⊥
letter_not_digit c p q = grind (arith, nat_tests)

letter_not_quote : (c : ℕ) → is_ascii_alphabetic c ≡ true → is_quote c ≡ true → ⊥
letter_not_quote c p q = grind (arith, nat_tests)

digit_not_quote : (c : ℕ) → is_ascii_digit c ≡ true → is_quote c ≡ true → ⊥
digit_not_quote c p q = grind (arith, nat_tests)

letter_in_name : (c : ℕ) → is_ascii_alphabetic c ≡ true → is_name_byte c ≡ true
letter_in_name c p = grind (arith, nat_tests)

pub not_true : (b : Bool) → not b ≡ true → b ≡ true → ⊥
not_true true p q = cc
not_true false p q = cc

-- ---- tables

-- each text of the table passes
abbrev pub AllEntries : {X : Type 0} → (List ℕ → Bool) → List (List ℕ × X) → Bool
AllEntries p [] = true
AllEntries p (e ∷ es) = p e.0 && AllEntries p es

pub entry_passes : {X : Type 0} (p : List ℕ → Bool) (es : List (List ℕ × X)) (word : List ℕ) → AllEntries p es ≡ true → is_some (entry_of es word) ≡ true → p word ≡ true
entry_passes p [] word all found = absurd cc
entry_passes {X} p (e ∷ es) word all found = by_test (bytes_eq e.0 word) refl (entry_passes p es word parts.1)
  where
    parts : (p e.0 ≡ true) × (AllEntries p es ≡ true)
    parts = and_parts (p e.0) (AllEntries p es) all

    by_test : (b : Bool) → bytes_eq e.0 word ≡ b → (is_some (entry_of es word) ≡ true → p word ≡ true) → p word ≡ true
    by_test true is others = subst (λ (w : List ℕ). p w ≡ true) ((bytes_eq-Decides e.0 word).0 is) parts.0
    by_test false is others = others (rw is at found)

-- what the text of each symbol is like: one or two bytes, and no letter, digit or quote first
abbrev pub is_sign_like : List ℕ → Bool
is_sign_like [] = false
is_sign_like (c ∷ cs) = nat_lt (length cs) 2 && (not (is_ascii_alphabetic c) && (not (is_ascii_digit c) && not (is_quote c)))

pub symbol_like : (word : List ℕ) → is_some (symbol_of word) ≡ true → is_sign_like word ≡ true
unfolding symbol_of
symbol_like word found = entry_passes is_sign_like symbols word refl found

pub record IsSignFirst (c : ℕ) (cs : List ℕ) : Type 0 where
  pub short : length cs < 2
  pub letter : is_ascii_alphabetic c ≡ true → ⊥
  pub digit : is_ascii_digit c ≡ true → ⊥
  pub quote : is_quote c ≡ true → ⊥

pub sign_first : (c : ℕ) (cs : List ℕ) → is_sign_like (c ∷ cs) ≡ true → IsSignFirst c cs
sign_first c cs h =
    let one = and_parts (nat_lt (length cs) 2) (not (is_ascii_alphabetic c) && (not (is_ascii_digit c) && not (is_quote c))) h in
    let two = and_parts (not (is_ascii_alphabetic c)) (not (is_ascii_digit c) && not (is_quote c)) one.1 in
    let three = and_parts (not (is_ascii_digit c)) (not (is_quote c)) two.1 in
    let short : length cs < 2 = let t = one.0 in grind (arith, nat_tests) in
    record { short = short; letter = not_true _ two.0; digit = not_true _ three.0; quote = not_true _ three.1 }

-- ---- the longest front of one kind of byte

-- the text doesn't go on with such a byte
abbrev pub stops : (ℕ → Bool) → List ℕ → Bool
stops p [] = true
stops p (c ∷ cs) = not (p c)

pub stops-drop : (p : ℕ → Bool) (text : List ℕ) → stops p (drop (prefix_len p text) text) ≡ true
stops-drop p [] = refl
stops-drop p (c ∷ cs) = by_test (p c) refl (stops-drop p cs)
  where
    by_test : (b : Bool) → p c ≡ b → stops p (drop (prefix_len p cs) cs) ≡ true → stops p (drop (prefix_len p (c ∷ cs)) (c ∷ cs)) ≡ true
    by_test true is others =
        let e : 1 + prefix_len p cs ≡ suc (prefix_len p cs) = omega arith in
        rw (is, e) others
    by_test false is others = rw is (rw is refl)

pub all-take : (p : ℕ → Bool) (text : List ℕ) → list_all p (take (prefix_len p text) text) ≡ true
all-take p [] = refl
all-take p (c ∷ cs) = by_test (p c) refl (all-take p cs)
  where
    by_test : (b : Bool) → p c ≡ b → list_all p (take (prefix_len p cs) cs) ≡ true → list_all p (take (prefix_len p (c ∷ cs)) (c ∷ cs)) ≡ true
    by_test true is others =
        let e : 1 + prefix_len p cs ≡ suc (prefix_len p cs) = omega arith in
        rw (is, e) (rw is others)
    by_test false is others = rw is refl

word_front : (c : ℕ) (cs : List ℕ) → is_ascii_alphabetic c ≡ true → is_word (take (prefix_len is_name_byte (c ∷ cs)) (c ∷ cs)) ≡ true
word_front c cs letter =
    let named = letter_in_name c letter in
    let e : 1 + prefix_len is_name_byte cs ≡ suc (prefix_len is_name_byte cs) = omega arith in
    rw (named, e) (and_from _ _ letter (all-take is_name_byte cs))

numeral_front : (c : ℕ) (cs : List ℕ) → is_ascii_digit c ≡ true → is_numeral (take (prefix_len is_ascii_digit (c ∷ cs)) (c ∷ cs)) ≡ true
numeral_front c cs digit =
    let e : 1 + prefix_len is_ascii_digit cs ≡ suc (prefix_len is_ascii_digit cs) = omega arith in
    rw (digit, e) (and_from _ _ digit (all-take is_ascii_digit cs))

-- ---- the kinds of lexemes

-- a lexeme is of one of four shapes
pub data IsShaped (word : List ℕ) : Type 0 where
  a_word : is_word word ≡ true → IsShaped word
  a_numeral : is_numeral word ≡ true → IsShaped word
  a_sign : is_some (symbol_of word) ≡ true → IsShaped word
  a_char : is_literal 39 word ≡ true → IsShaped word
  a_string : is_literal 34 word ≡ true → IsShaped word

pub shaped : (word : List ℕ) → is_lexeme word ≡ true → IsShaped word
shaped word h = by_word (or_cases (is_word word) _ h)
  where
    by_literal : (is_literal 39 word ≡ true) ⊎ (is_literal 34 word ≡ true) → IsShaped word
    by_literal (inl l) = a_char l
    by_literal (inr l) = a_string l

    by_sign : (is_some (symbol_of word) ≡ true) ⊎ ((is_literal 39 word || is_literal 34 word) ≡ true) → IsShaped word
    by_sign (inl s) = a_sign s
    by_sign (inr l) = by_literal (or_cases (is_literal 39 word) (is_literal 34 word) l)

    by_numeral : (is_numeral word ≡ true) ⊎ ((is_some (symbol_of word) || (is_literal 39 word || is_literal 34 word)) ≡ true) → IsShaped word
    by_numeral (inl n) = a_numeral n
    by_numeral (inr o) = by_sign (or_cases (is_some (symbol_of word)) (is_literal 39 word || is_literal 34 word) o)

    by_word : (is_word word ≡ true) ⊎ ((is_numeral word || (is_some (symbol_of word) || (is_literal 39 word || is_literal 34 word))) ≡ true) → IsShaped word
    by_word (inl w) = a_word w
    by_word (inr o) = by_numeral (or_cases (is_numeral word) (is_some (symbol_of word) || (is_literal 39 word || is_literal 34 word)) o)

pub word_lexeme : (word : List ℕ) → is_word word ≡ true → is_lexeme word ≡ true
word_lexeme word h = or_left _ _ h

pub numeral_lexeme : (word : List ℕ) → is_numeral word ≡ true → is_lexeme word ≡ true
numeral_lexeme word h = or_right (is_word word) _ (or_left _ _ h)

pub sign_lexeme : (word : List ℕ) → is_some (symbol_of word) ≡ true → is_lexeme word ≡ true
sign_lexeme word h = or_right (is_word word) _ (or_right (is_numeral word) _ (or_left _ _ h))

pub literal_lexeme : (quote : ℕ) (word : List ℕ) → is_quote quote ≡ true → is_literal quote word ≡ true → is_lexeme word ≡ true
literal_lexeme quote word q h = or_right (is_word word) _ (or_right (is_numeral word) _ (or_right (is_some (symbol_of word)) _ (by_quote (or_cases (quote == 39) (quote == 34) q))))
  where
    by_quote : ((quote == 39) ≡ true) ⊎ ((quote == 34) ≡ true) → (is_literal 39 word || is_literal 34 word) ≡ true
    by_quote (inl e) = or_left _ _ (subst (λ (n : ℕ). is_literal n word ≡ true) (eqb-true quote 39 e) h)
    by_quote (inr e) = or_right (is_literal 39 word) _ (subst (λ (n : ℕ). is_literal n word ≡ true) (eqb-true quote 34 e) h)

-- the first byte of a literal
quoted : (quote c : ℕ) (cs : List ℕ) → is_quote quote ≡ true → is_literal quote (c ∷ cs) ≡ true → is_quote c ≡ true
quoted quote c cs q l =
    let e = eqb-true c quote (and_parts (c == quote) (is_last (content_len false quote cs) (length cs)) l).0 in
    subst (λ (n : ℕ). is_quote n ≡ true) (sym e) q

-- a lexeme that begins with a letter is a word, with a digit a numeral, with a quote a literal, and any other a symbol
pub from_letter : (c : ℕ) (cs : List ℕ) → is_ascii_alphabetic c ≡ true → is_lexeme (c ∷ cs) ≡ true → is_word (c ∷ cs) ≡ true
from_letter c cs letter l = by_shape (shaped (c ∷ cs) l)
  where
    by_shape : IsShaped (c ∷ cs) → is_word (c ∷ cs) ≡ true
    by_shape (a_word w) = w
    by_shape (a_numeral n) = absurd (letter_not_digit c letter (and_parts (is_ascii_digit c) (list_all is_ascii_digit cs) n).0)
    by_shape (a_sign s) = absurd ((sign_first c cs (symbol_like (c ∷ cs) s)).letter letter)
    by_shape (a_char q) = absurd (letter_not_quote c letter (quoted 39 c cs refl q))
    by_shape (a_string q) = absurd (letter_not_quote c letter (quoted 34 c cs refl q))

pub from_digit : (c : ℕ) (cs : List ℕ) → is_ascii_digit c ≡ true → is_lexeme (c ∷ cs) ≡ true → is_numeral (c ∷ cs) ≡ true
from_digit c cs digit l = by_shape (shaped (c ∷ cs) l)
  where
    by_shape : IsShaped (c ∷ cs) → is_numeral (c ∷ cs) ≡ true
    by_shape (a_word w) = absurd (letter_not_digit c (and_parts (is_ascii_alphabetic c) (list_all is_name_byte cs) w).0 digit)
    by_shape (a_numeral n) = n
    by_shape (a_sign s) = absurd ((sign_first c cs (symbol_like (c ∷ cs) s)).digit digit)
    by_shape (a_char q) = absurd (digit_not_quote c digit (quoted 39 c cs refl q))
    by_shape (a_string q) = absurd (digit_not_quote c digit (quoted 34 c cs refl q))

same_literal : (quote other c : ℕ) (cs : List ℕ) → (c == quote) ≡ true → is_literal other (c ∷ cs) ≡ true → is_literal quote (c ∷ cs) ≡ true
same_literal quote other c cs is l =
    let e = eqb-true c other (and_parts (c == other) (is_last (content_len false other cs) (length cs)) l).0 in
    subst (λ (n : ℕ). is_literal n (c ∷ cs) ≡ true) (sym e ∙ eqb-true c quote is) l

pub from_quote : (quote c : ℕ) (cs : List ℕ) → is_quote quote ≡ true → (c == quote) ≡ true → is_lexeme (c ∷ cs) ≡ true → is_literal quote (c ∷ cs) ≡ true
from_quote quote c cs q is l = by_shape (shaped (c ∷ cs) l)
  where
    first : is_quote c ≡ true
    first = subst (λ (n : ℕ). is_quote n ≡ true) (sym (eqb-true c quote is)) q

    by_shape : IsShaped (c ∷ cs) → is_literal quote (c ∷ cs) ≡ true
    by_shape (a_word w) = absurd (letter_not_quote c (and_parts (is_ascii_alphabetic c) (list_all is_name_byte cs) w).0 first)
    by_shape (a_numeral n) = absurd (digit_not_quote c (and_parts (is_ascii_digit c) (list_all is_ascii_digit cs) n).0 first)
    by_shape (a_sign s) = absurd ((sign_first c cs (symbol_like (c ∷ cs) s)).quote first)
    by_shape (a_char t) = same_literal quote 39 c cs is t
    by_shape (a_string t) = same_literal quote 34 c cs is t

pub from_other : (c : ℕ) (cs : List ℕ) → is_ascii_alphabetic c ≡ false → is_ascii_digit c ≡ false → is_quote c ≡ false → is_lexeme (c ∷ cs) ≡ true → is_some (symbol_of (c ∷ cs)) ≡ true
from_other c cs letter digit quote l = by_shape (shaped (c ∷ cs) l)
  where
    by_shape : IsShaped (c ∷ cs) → is_some (symbol_of (c ∷ cs)) ≡ true
    by_shape (a_word w) = absurd (both_ways _ letter (and_parts (is_ascii_alphabetic c) (list_all is_name_byte cs) w).0)
    by_shape (a_numeral n) = absurd (both_ways _ digit (and_parts (is_ascii_digit c) (list_all is_ascii_digit cs) n).0)
    by_shape (a_sign s) = s
    by_shape (a_char t) = absurd (both_ways _ quote (quoted 39 c cs refl t))
    by_shape (a_string t) = absurd (both_ways _ quote (quoted 34 c cs refl t))

pub no_empty_lexeme : (word : List ℕ) → is_lexeme word ≡ true → 0 < length word
no_empty_lexeme [] l = by_shape (shaped [] l)
  where
    by_shape : IsShaped [] → 0 < length {A = ℕ} []
    by_shape (a_word w) = absurd cc
    by_shape (a_numeral n) = absurd cc
    by_shape (a_sign s) = let like = symbol_like [] s in absurd cc
    by_shape (a_char t) = absurd cc
    by_shape (a_string t) = absurd cc
no_empty_lexeme (c ∷ cs) l = omega arith

-- ---- longest words and numerals

-- a byte that passes, where none passes
pub all_seam : (p : ℕ → Bool) (a : List ℕ) (d : ℕ) (m : List ℕ) → list_all p (a ++ d ∷ m) ≡ true → p d ≡ true
all_seam p [] d m h = (and_parts (p d) (list_all p m) h).0
all_seam p (x ∷ a) d m h = all_seam p a d m (and_parts (p x) (list_all p (a ++ d ∷ m)) h).1

pub word_longest : (word rest : List ℕ) → is_word word ≡ true → stops is_name_byte rest ≡ true → IsLongest word rest
word_longest [] rest w stop = absurd cc
word_longest (c ∷ cs) rest w stop = record { lexeme = word_lexeme (c ∷ cs) w; longest = none }
  where
    letter : is_ascii_alphabetic c ≡ true
    letter = (and_parts (is_ascii_alphabetic c) (list_all is_name_byte cs) w).0

    none : (more left : List ℕ) → rest ≡ more ++ left → is_lexeme ((c ∷ cs) ++ more) ≡ true → more ≡ []
    none [] left e l = refl
    none (d ∷ m) left e l =
        let stop' : not (is_name_byte d) ≡ true = subst (λ (r : List ℕ). stops is_name_byte r ≡ true) e stop in
        let again = from_letter c (cs ++ d ∷ m) letter l in
        absurd (not_true _ stop' (all_seam is_name_byte cs d m (and_parts (is_ascii_alphabetic c) (list_all is_name_byte (cs ++ d ∷ m)) again).1))

pub numeral_longest : (word rest : List ℕ) → is_numeral word ≡ true → stops is_ascii_digit rest ≡ true → IsLongest word rest
numeral_longest [] rest w stop = absurd cc
numeral_longest (c ∷ cs) rest w stop = record { lexeme = numeral_lexeme (c ∷ cs) w; longest = none }
  where
    digit : is_ascii_digit c ≡ true
    digit = (and_parts (is_ascii_digit c) (list_all is_ascii_digit cs) w).0

    none : (more left : List ℕ) → rest ≡ more ++ left → is_lexeme ((c ∷ cs) ++ more) ≡ true → more ≡ []
    none [] left e l = refl
    none (d ∷ m) left e l =
        let stop' : not (is_ascii_digit d) ≡ true = subst (λ (r : List ℕ). stops is_ascii_digit r ≡ true) e stop in
        let again = from_digit c (cs ++ d ∷ m) digit l in
        absurd (not_true _ stop' (all_seam is_ascii_digit cs d m (and_parts (is_ascii_digit c) (list_all is_ascii_digit (cs ++ d ∷ m)) again).1))

pub record IsWordFront (text : List ℕ) (word rest : List ℕ) : Type 0 where
  pub is : is_word word ≡ true
  pub longest : IsLongest word rest

pub word_begins : (text : List ℕ) → IsStart is_ascii_alphabetic text → IsWordFront text (take (prefix_len is_name_byte text) text) (drop (prefix_len is_name_byte text) text)
word_begins [] s = absurd s
word_begins (c ∷ cs) s =
    let w = word_front c cs s in
    record { is = w; longest = word_longest _ _ w (stops-drop is_name_byte (c ∷ cs)) }

pub record IsNumeralFront (text : List ℕ) (word rest : List ℕ) : Type 0 where
  pub is : is_numeral word ≡ true
  pub longest : IsLongest word rest

pub numeral_begins : (text : List ℕ) → IsStart is_ascii_digit text → IsNumeralFront text (take (prefix_len is_ascii_digit text) text) (drop (prefix_len is_ascii_digit text) text)
numeral_begins [] s = absurd s
numeral_begins (c ∷ cs) s =
    let n = numeral_front c cs s in
    record { is = n; longest = numeral_longest _ _ n (stops-drop is_ascii_digit (c ∷ cs)) }

-- ---- longest symbols

pub sign_short : (word : List ℕ) → is_some (symbol_of word) ≡ true → length word ≤ 2
sign_short [] s = omega arith
sign_short (c ∷ cs) s = let short = (sign_first c cs (symbol_like (c ∷ cs) s)).short in omega arith

-- a symbol is the longest lexeme where with one more byte it isn't one
pub sign_longest : (word rest : List ℕ) → is_some (symbol_of word) ≡ true → ((d : ℕ) (m : List ℕ) → rest ≡ d ∷ m → is_some (symbol_of (word ++ d ∷ [])) ≡ true → ⊥) → IsLongest word rest
sign_longest [] rest is no_more = let like = symbol_like [] is in absurd cc
sign_longest (c ∷ cs) rest is no_more = record { lexeme = sign_lexeme (c ∷ cs) is; longest = none }
  where
    first : IsSignFirst c cs
    first = sign_first c cs (symbol_like (c ∷ cs) is)

    none : (more left : List ℕ) → rest ≡ more ++ left → is_lexeme ((c ∷ cs) ++ more) ≡ true → more ≡ []
    none [] left e l = refl
    none (d ∷ m) left e l = by_length m refl (from_other c (cs ++ d ∷ m) (is_false _ first.letter) (is_false _ first.digit) (is_false _ first.quote) l)
      where
        is_false : (b : Bool) → (b ≡ true → ⊥) → b ≡ false
        is_false true h = absurd (h refl)
        is_false false h = refl

        by_length : (n : List ℕ) → m ≡ n → is_some (symbol_of (c ∷ cs ++ d ∷ m)) ≡ true → d ∷ m ≡ []
        by_length [] same s =
            absurd (no_more d left (e ∙ ap (λ (x : List ℕ). d ∷ x ++ left) same) (ap (λ (x : List ℕ). is_some (symbol_of (c ∷ cs ++ d ∷ x))) (sym same) ∙ s))
        by_length (x ∷ n) same s =
            let short = sign_short (c ∷ cs ++ d ∷ m) s in
            absurd (omega (arith, length-append cs (d ∷ m), ap length same))

pub not_none : {X : Type 0} (o : Option X) → is_some o ≡ true → o ≡ None → ⊥
not_none None s e = cc
not_none (Some x) s e = cc

pub one_sign : (text : List ℕ) (s : Symbol) → 1 ≤ length text → symbol_of (take 1 text) ≡ Some s → (2 ≤ length text → symbol_of (take 2 text) ≡ None) → IsLongest (take 1 text) (drop 1 text)
one_sign [] s some is two = absurd (omega arith)
one_sign (c ∷ cs) s some is two = sign_longest (c ∷ []) cs (ap is_some is) (by_rest cs two)
  where
    by_rest : (cs : List ℕ) → (2 ≤ length (c ∷ cs) → symbol_of (take 2 (c ∷ cs)) ≡ None) → (d : ℕ) (m : List ℕ) → cs ≡ d ∷ m → is_some (symbol_of (c ∷ d ∷ [])) ≡ true → ⊥
    by_rest [] two d m e found = absurd cc
    by_rest (x ∷ xs) two d m e found =
        let same : x ≡ d = cc in
        not_none (symbol_of (c ∷ d ∷ [])) found (ap (λ (n : ℕ). symbol_of (c ∷ n ∷ [])) (sym same) ∙ two (omega arith))

pub two_signs : (text : List ℕ) (s : Symbol) → 2 ≤ length text → symbol_of (take 2 text) ≡ Some s → IsLongest (take 2 text) (drop 2 text)
two_signs [] s some is = absurd (omega arith)
two_signs (c ∷ []) s some is = absurd (omega arith)
two_signs (c ∷ d ∷ cs) s some is = sign_longest (c ∷ d ∷ []) cs (ap is_some is) (λ x m e found. absurd (omega (arith, sign_short (c ∷ d ∷ x ∷ []) found)))
