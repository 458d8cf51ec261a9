-- Where reading stands.
use Rattle.std.specs.Prelude.{◌≡◌, ℕ, ◌+◌, ◌≤◌, List, length, drop, slice_range}
use Rattle.orca_lexer.specs.declared.cursor.Cursor.{Cursor}
use Rattle.orca_lexer.specs.declared.error.LexError.{LexError}
use Rattle.orca_lexer.specs.declared.token.Token.{Token}
use Rattle.orca_lexer.specs.Tokens.{IsLongest, Means, place_in}
use Rattle.orca_lexer.specs.Refusal.{IsFault}

-- the cursor stands at a byte of this text, or at its end
pub record IsAt (text : List ℕ) (cursor : Cursor) : Type 0 where
  pub within : cursor.offset ≤ length text
  pub place : cursor.at ≡ place_in text cursor.offset

-- behind so many bytes begins this token, and the cursor stands behind it
pub record StartsToken (text : List ℕ) (offset : ℕ) (token : Token) (behind : Cursor) : Type 0 where
  pub start : token.start ≡ offset
  pub within : token.end ≤ length text
  pub longest : IsLongest (slice_range text token.start token.end) (drop token.end text)
  pub means : Means (slice_range text token.start token.end) token.kind
  pub place : token.at ≡ place_in text token.start
  pub at : IsAt text behind
  pub end : behind.offset ≡ token.end

-- behind so many bytes begins no token, by this rule and at this place
pub record IsFaultAt (text : List ℕ) (offset : ℕ) (error : LexError) : Type 0 where
  pub distance : ℕ
  pub fault : IsFault (drop offset text) error.rule distance
  pub place : error.at ≡ place_in text (offset + distance)
