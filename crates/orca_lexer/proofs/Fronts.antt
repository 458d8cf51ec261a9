-- The lexeme at the front of a text that the parts of the lexer found.
use Rattle.std.proofs.Common.{◌≡◌, ℕ, ◌<◌, ◌≤◌, true, false, List, [], ◌∷◌, ◌++◌, length, take, drop, None, refl, sym, ap, ◌∙◌, subst, inl, inr, ◌⊎◌, arith, take-append-drop}
use Rattle.std.specs.Prelude.{◌^◌, is_some}
use Rattle.std.specs.Char.{is_ascii_alphabetic, is_ascii_digit}
use Rattle.std.specs.Str.Parse.{digits_value}
use Rattle.std.proofs.lemmas.Bool.{cases_lt}
use Rattle.orca_lexer.specs.declared.error.LexRule.{LexRule}
use Rattle.orca_lexer.specs.declared.error.LexRule.TheVariants.{StrayCharacter, NumberTooLarge}
use Rattle.orca_lexer.specs.Tables.{symbol_of}
use Rattle.orca_lexer.specs.Shapes.{is_numeral, is_quote, is_literal, content_of}
use Rattle.orca_lexer.specs.Contents.{character_count}
use Rattle.orca_lexer.specs.declared.parts.Fault.{Fault}
use Rattle.orca_lexer.specs.Fronts.{IsStrayInside, IsSignStart}
use Rattle.orca_lexer.specs.Tokens.{IsLongest}
use Rattle.orca_lexer.specs.Refusal.{IsSenseless, IsFault, NoLexeme}
use Rattle.orca_lexer.specs.Refusal.IsSenseless.{large, in_char, in_string}
use Rattle.orca_lexer.specs.Refusal.IsFault.{senseless, stray}
use Rattle.orca_lexer.proofs.Longest.{not_none, from_other, no_empty_lexeme, sign_short}

-- a fault of the first bytes, so many, which are the longest lexeme
pub senseless_at : (text : List ℕ) (len : ℕ) (rule : LexRule) (n : ℕ) → IsLongest (take len text) (drop len text) → IsSenseless (take len text) rule n → IsFault text rule n
senseless_at text len rule n longest wrong = senseless rule n (take len text) (drop len text) (sym (take-append-drop len text)) longest wrong

pub too_large : (word : List ℕ) → is_numeral word ≡ true → (digits_value 10 word < 2 ^ 63 → ⊥) → IsSenseless word NumberTooLarge 0
too_large word numeral not_below = large numeral (by_order (cases_lt (digits_value 10 word) (2 ^ 63)))
  where
    by_order : (digits_value 10 word < 2 ^ 63) ⊎ (2 ^ 63 ≤ digits_value 10 word) → 2 ^ 63 ≤ digits_value 10 word
    by_order (inl below) = absurd (not_below below)
    by_order (inr above) = above

-- a text that begins with no letter, no digit, no quote and no symbol
pub no_sign : (text : List ℕ) → IsSignStart text → (1 ≤ length text → symbol_of (take 1 text) ≡ None) → (2 ≤ length text → symbol_of (take 2 text) ≡ None) → IsFault text StrayCharacter 0
no_sign [] s one two = absurd s
no_sign (c ∷ cs) s one two = stray (rw s.2 refl) none
  where
    by_length : (d : ℕ) (ds rest : List ℕ) → c ≡ d → cs ≡ ds ++ rest → is_some (symbol_of (d ∷ ds)) ≡ true → ⊥
    by_length d [] rest same others sign = not_none (symbol_of (d ∷ [])) sign (ap (λ (n : ℕ). symbol_of (n ∷ [])) (sym same) ∙ one (omega arith))
    by_length d (y ∷ []) rest same others sign =
        let long : 2 ≤ length (c ∷ cs) = omega (arith, ap length others) in
        let front : take 1 cs ≡ y ∷ [] = ap (λ (l : List ℕ). take 1 l) others in
        not_none (symbol_of (d ∷ y ∷ [])) sign (ap (λ (n : ℕ). symbol_of (n ∷ y ∷ [])) (sym same) ∙ ap (λ (l : List ℕ). symbol_of (c ∷ l)) (sym front) ∙ two long)
    by_length d (y ∷ z ∷ ds) rest same others sign = absurd (omega (arith, sign_short (d ∷ y ∷ z ∷ ds) sign))

    none : NoLexeme (c ∷ cs)
    none [] rest e l = omega (arith, no_empty_lexeme [] l)
    none (d ∷ ds) rest e l =
        let same : c ≡ d = cc in
        let others : cs ≡ ds ++ rest = cc in
        by_length d ds rest same others
        (from_other d ds (subst (λ (n : ℕ). is_ascii_alphabetic n ≡ false) same s.0) (subst (λ (n : ℕ). is_ascii_digit n ≡ false) same s.1) (subst (λ (n : ℕ). is_quote n ≡ false) same s.2) l)

-- a wrong character inside a char of one character, and inside a string
pub stray_in_char : (word : List ℕ) (fault : Fault) → is_literal 39 word ≡ true → character_count false (content_of word) ≡ 1 → IsStrayInside 39 (content_of word) fault → IsSenseless word fault.rule fault.distance
stray_in_char word fault literal one inside = rw (inside.rule, inside.distance) (in_char inside.behind literal one inside.wrong)

pub stray_in_string : (word : List ℕ) (fault : Fault) → is_literal 34 word ≡ true → IsStrayInside 34 (content_of word) fault → IsSenseless word fault.rule fault.distance
stray_in_string word fault literal inside = rw (inside.rule, inside.distance) (in_string inside.behind literal inside.wrong)
