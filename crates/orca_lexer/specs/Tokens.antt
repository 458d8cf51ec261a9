-- The tokens of a text (docs/LANGUAGE.md, Tokens): the longest match at each place, over the shapes of lexemes. What a
-- lexeme stands for is said apart: a numeral that is too large is one lexeme that stands for no token.
use Rattle.std.specs.Prelude.{◌≡◌, ℕ, ◌+◌, ◌-◌, ◌^◌, ◌<◌, ◌≤◌, Bool, true, not, ◌||◌, ◌==◌, List, [], ◌∷◌, ◌++◌, length, take, drop, slice_range, Some, None, if◌then◌else◌, pos}
use Rattle.std.specs.List.{count_by, suffix_len}
use Rattle.std.specs.Str.{IsUtf8}
use Rattle.std.specs.Str.Parse.{digits_value}
use Rattle.orca_base.specs.declared.place.Place.{Place}
use Rattle.orca_lexer.specs.declared.token.TokenKind.{TokenKind}
use Rattle.orca_lexer.specs.declared.token.TokenKind.TheVariants.{Name, Number, Char, Text, Key, Sign}
use Rattle.orca_lexer.specs.declared.token.Token.{Token}
use Rattle.orca_lexer.specs.Tables.{keyword_of, symbol_of}
use Rattle.orca_lexer.specs.Shapes.{is_word, is_numeral, is_literal, is_lexeme, content_of}
use Rattle.orca_lexer.specs.Contents.{Spells}

-- a space, a tab, a carriage return or a line feed
abbrev pub is_blank : ℕ → Bool
is_blank c = (c == 32 || c == 9) || (c == 13 || c == 10)

-- what is left of a text behind its blanks and comments, and of one that begins inside a comment
abbrev mutual
  pub after_gap : List ℕ → List ℕ
  after_gap [] = []
  after_gap (c ∷ cs) = if is_blank c then after_gap cs else (if c == 35 then after_comment cs else c ∷ cs)

  pub after_comment : List ℕ → List ℕ
  after_comment [] = []
  after_comment (c ∷ cs) = if c == 10 then after_gap cs else after_comment cs

-- the word is a lexeme, and no longer front of the text is one
pub record IsLongest (word rest : List ℕ) : Type 0 where
  pub lexeme : is_lexeme word ≡ true
  pub longest : (more left : List ℕ) → rest ≡ more ++ left → is_lexeme (word ++ more) ≡ true → more ≡ []

-- what a lexeme stands for
abbrev pub Means : List ℕ → TokenKind → Type 0
Means word (Name name) = (is_word word ≡ true) × (keyword_of word ≡ None) × (name ≡ word)
Means word (Number value) = (is_numeral word ≡ true) × (digits_value 10 word < 2 ^ 63) × (value ≡ pos (digits_value 10 word))
Means word (Char code) = (is_literal 39 word ≡ true) × Spells 39 (content_of word) (code ∷ [])
Means word (Text text) = (is_literal 34 word ≡ true) × Spells 34 (content_of word) text
Means word (Key keyword) = (is_word word ≡ true) × (keyword_of word ≡ Some keyword)
Means word (Sign symbol) = symbol_of word ≡ Some symbol

-- the line of a byte, from 1: one more than the line feeds before it
abbrev pub line_of : List ℕ → ℕ
line_of before = 1 + count_by (λ c. c == 10) before

-- the column of a byte, from 1: one more than the bytes since the last line feed before it
abbrev pub column_of : List ℕ → ℕ
column_of before = 1 + suffix_len (λ c. not (c == 10)) before

-- the place of the byte behind so many bytes of a text
abbrev pub place_in : List ℕ → ℕ → Place
place_in text n = record { line = line_of (take n text); column = column_of (take n text) }

-- behind so many bytes, and a gap, a text goes on with this token
pub record Begins (text : List ℕ) (from : ℕ) (token : Token) : Type 0 where
  pub gap : drop token.start text ≡ after_gap (drop from text)
  pub within : token.end ≤ length text
  pub longest : IsLongest (slice_range text token.start token.end) (drop token.end text)
  pub means : Means (slice_range text token.start token.end) token.kind
  pub place : token.at ≡ place_in text token.start

-- behind so many bytes a text goes on with these tokens, one after the other, each the longest match
abbrev pub Follow : List ℕ → ℕ → List Token → Type 0
Follow text from [] = Unit {0}
Follow text from (token ∷ tokens) = Begins text from token × Follow text token.end tokens

-- where the last token ends
abbrev pub end_of : ℕ → List Token → ℕ
end_of from [] = from
end_of from (token ∷ tokens) = end_of token.end tokens

-- a text has these tokens, and behind the last one a gap; the whole text is UTF-8, in comments too
pub record Tokens (text : List ℕ) (tokens : List Token) : Type 0 where
  pub utf8 : IsUtf8 text
  pub follow : Follow text 0 tokens
  pub over : after_gap (drop (end_of 0 tokens) text) ≡ []

-- a token's slice is one, and the column behind it is below 2^32
pub record HasRoom (t : Token) : Type 0 where
  pub slice : t.start ≤ t.end
  pub place : t.at.column + (t.end - t.start) < 2 ^ 32

-- a text begins with a byte that passes
abbrev pub IsStart : (ℕ → Bool) → List ℕ → Type 0
IsStart p [] = ⊥
IsStart p (c ∷ cs) = p c ≡ true
