-- The first reason for which a text has no tokens (docs/LANGUAGE.md, Tokens), and its place.
use Rattle.std.specs.Prelude.{◌≡◌, ℕ, suc, ◌+◌, ◌^◌, ◌<◌, ◌≤◌, ◌⊎◌, true, false, not, List, ◌++◌, length, take, drop, None}
use Rattle.std.specs.Str.{IsUtf8}
use Rattle.std.specs.Str.Parse.{digits_value}
use Rattle.orca_lexer.specs.declared.error.LexError.{LexError}
use Rattle.orca_lexer.specs.declared.error.LexRule.{LexRule}
use Rattle.orca_lexer.specs.declared.error.LexRule.TheVariants.{NotUtf8, StrayCharacter, OpenString, NumberTooLarge}
use Rattle.orca_lexer.specs.declared.token.Token.{Token}
use Rattle.orca_lexer.specs.Shapes.{is_numeral, is_quote, is_literal, is_lexeme, content_of}
use Rattle.orca_lexer.specs.Contents.{first_character, Spells, character_count}
use Rattle.orca_lexer.specs.Tokens.{IsLongest, IsStart, after_gap, place_in, Follow, end_of}

-- some UTF-8 text begins with these bytes
abbrev pub IsUtf8Front : List ℕ → Type 0
IsUtf8Front bytes = (more : List ℕ) × IsUtf8 (bytes ++ more)

-- the bytes before this one begin some UTF-8 text, and with it they begin none. Where the text ends within a character,
-- that is behind its last byte
pub record IsFirstBadByte (text : List ℕ) (n : ℕ) : Type 0 where
  pub within : n ≤ length text
  pub before : IsUtf8Front (take n text)
  pub bad : n < length text → IsUtf8Front (take (suc n) text) → ⊥

-- the text isn't UTF-8
pub record IsNoUtf8 (text : List ℕ) (error : LexError) : Type 0 where
  pub none : IsUtf8 text → ⊥
  pub offset : ℕ
  pub first : IsFirstBadByte text offset
  pub rule : error.rule ≡ NotUtf8
  pub place : error.at ≡ place_in text offset

-- in the content of a literal right characters end behind so many bytes, and a wrong one stands there
pub record IsWrongBehind (quote : ℕ) (content : List ℕ) (n : ℕ) : Type 0 where
  pub codes : List ℕ
  pub before : Spells quote (take n content) codes
  pub within : n < length content
  pub wrong : first_character quote (drop n content) ≡ None

-- why a lexeme stands for no token: the rule, and how many bytes of it stand before the fault
pub data IsSenseless (word : List ℕ) : LexRule → ℕ → Type 0 where
  -- a numeral that is too large, at its first digit
  large : is_numeral word ≡ true → 2 ^ 63 ≤ digits_value 10 word → IsSenseless word NumberTooLarge 0
  -- a char that isn't one character long, at its opening quote
  not_one : is_literal 39 word ≡ true → (character_count false (content_of word) ≡ 1 → ⊥) → IsSenseless word StrayCharacter 0
  -- a char of one wrong character, at that
  in_char : (n : ℕ) → is_literal 39 word ≡ true → character_count false (content_of word) ≡ 1 → IsWrongBehind 39 (content_of word) n →
      IsSenseless word StrayCharacter (n + 1)
  -- a string with a wrong character, at the first one
  in_string : (n : ℕ) → is_literal 34 word ≡ true → IsWrongBehind 34 (content_of word) n → IsSenseless word StrayCharacter (n + 1)

-- no front of a text is a lexeme
abbrev pub NoLexeme : List ℕ → Type 0
NoLexeme text = (word rest : List ℕ) → text ≡ word ++ rest → is_lexeme word ≡ true → ⊥

-- why a text that begins with no gap begins with no token: the rule, and how many bytes stand before the fault
pub data IsFault (text : List ℕ) : LexRule → ℕ → Type 0 where
  -- its longest lexeme stands for no token
  senseless : (rule : LexRule) (n : ℕ) (word rest : List ℕ) → text ≡ word ++ rest → IsLongest word rest → IsSenseless word rule n →
      IsFault text rule n
  -- a quote that is never closed
  unclosed : IsStart is_quote text → NoLexeme text → IsFault text OpenString 0
  -- any other character that begins no lexeme
  stray : IsStart (λ c. not (is_quote c)) text → NoLexeme text → IsFault text StrayCharacter 0

-- the text is UTF-8, and a front of it is tokens; behind them, and a gap, begins no token
pub record IsNoToken (text : List ℕ) (error : LexError) : Type 0 where
  pub utf8 : IsUtf8 text
  pub tokens : List Token
  pub follow : Follow text 0 tokens
  pub start : ℕ
  pub gap : drop start text ≡ after_gap (drop (end_of 0 tokens) text)
  pub distance : ℕ
  pub fault : IsFault (drop start text) error.rule distance
  pub place : error.at ≡ place_in text (start + distance)

-- the first reason for which a text has no tokens. Whether it is UTF-8 is decided before all else
abbrev pub IsRefusal : List ℕ → LexError → Type 0
IsRefusal text error = IsNoUtf8 text error ⊎ IsNoToken text error
