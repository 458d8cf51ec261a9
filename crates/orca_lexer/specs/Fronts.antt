-- What the parts of the lexer answer.
use Rattle.std.specs.Prelude.{◌≡◌, ℕ, ◌+◌, ◌≤◌, true, false, List, [], ◌∷◌, length, take, drop}
use Rattle.std.specs.Char.{is_ascii_alphabetic, is_ascii_digit}
use Rattle.std.specs.Str.{IsUtf8}
use Rattle.orca_lexer.specs.declared.error.LexRule.TheVariants.{StrayCharacter}
use Rattle.orca_lexer.specs.declared.parts.Fault.{Fault}
use Rattle.orca_lexer.specs.declared.token.TokenKind.{TokenKind}
use Rattle.orca_lexer.specs.Shapes.{is_quote, is_literal}
use Rattle.orca_lexer.specs.Tokens.{IsLongest, IsStart, Means}
use Rattle.orca_lexer.specs.Refusal.{IsWrongBehind, NoLexeme, IsFirstBadByte}

-- a text begins with a byte that is no letter, no digit and no quote
abbrev pub IsSignStart : List ℕ → Type 0
IsSignStart [] = ⊥
IsSignStart (c ∷ cs) = (is_ascii_alphabetic c ≡ false) × (is_ascii_digit c ≡ false) × (is_quote c ≡ false)

-- the first bytes of a text, so many, are its longest lexeme, and stand for this
pub record IsFront (text : List ℕ) (kind : TokenKind) (len : ℕ) : Type 0 where
  pub within : len ≤ length text
  pub longest : IsLongest (take len text) (drop len text)
  pub means : Means (take len text) kind

-- the first bytes of a text, so many, are a literal, and its longest lexeme
pub record IsLiteralFront (quote : ℕ) (text : List ℕ) (len : ℕ) : Type 0 where
  pub within : len ≤ length text
  pub is : is_literal quote (take len text) ≡ true
  pub longest : IsLongest (take len text) (drop len text)

-- a text begins with a quote that is never closed
pub record IsUnclosed (text : List ℕ) : Type 0 where
  pub quote : IsStart is_quote text
  pub none : NoLexeme text

-- the fault of a literal with this content: its first wrong character
pub record IsStrayInside (quote : ℕ) (content : List ℕ) (fault : Fault) : Type 0 where
  pub behind : ℕ
  pub wrong : IsWrongBehind quote content behind
  pub rule : fault.rule ≡ StrayCharacter
  pub distance : fault.distance ≡ behind + 1

-- a text isn't UTF-8, and this is the first byte that doesn't continue it
pub record IsBadAt (text : List ℕ) (n : ℕ) : Type 0 where
  pub none : IsUtf8 text → ⊥
  pub first : IsFirstBadByte text n

-- bytes begin as they did
pub record StillBegins (old new : List ℕ) : Type 0 where
  pub front : take (length old) new ≡ old
