-- The notes on faults of the front end (docs/FORMATS.md, Notes).
use Rattle.std.specs.Prelude.{◌≡◌, ◌⊎◌, ◌≢◌, ℕ, List, [], Some, None, codes}
use Rattle.orca_base.specs.declared.place.Place.{Place}
use Rattle.orca_lexer.specs.declared.error.LexRule.{LexRule}
use Rattle.orca_lexer.specs.Rules.{message_of}
use Rattle.link_rules.specs.declared.link_error.LinkError.{LinkError}
use Rattle.type_rules.specs.declared.type_error.TypeError.{TypeError}
use Rattle.refusal_notes.specs.declared.cause.Cause.{Cause}
use Rattle.refusal_notes.specs.declared.cause.Cause.TheVariants as causes
use Rattle.refusal_notes.specs.declared.cause.Hint.{Hint}
use Rattle.refusal_notes.specs.declared.spot.Spot.{Spot}
use Rattle.refusal_notes.specs.Excerpts.{word_at}
use Rattle.refusal_notes.specs.Notes.{note_of}

-- the spot is this place in the text of this file
pub record IsSpot (spot : Spot) (file text : List ℕ) (at : Place) : Type 0 where
  pub file_is : spot.file.now ≡ file
  pub text_is : spot.text.now ≡ text
  pub at_is : spot.at ≡ at

-- the cause for which this is said of a text: a rule of the lexer, its end, or a token that stands where the grammar has none
pub data IsSaid (said : List ℕ) : Cause → Type 0 where
  lexical : (rule : LexRule) → said ≡ message_of rule → IsSaid said (causes.Lexical rule)
  ended : said ≡ codes "unexpected end of text" → IsSaid said causes.UnexpectedEnd
  unexpected : ((rule : LexRule) → said ≢ message_of rule) → said ≢ codes "unexpected end of text" → (hint : Hint) →
      IsSaid said (causes.Unexpected hint)

-- the note on a text of which this is said at a place, of the word that stands there
abbrev pub IsTextNote : List ℕ → List ℕ → Place → List ℕ → List ℕ → Type 0
IsTextNote file text at said note =
    (spot : Spot) × (cause : Cause) × IsSpot spot file text at × IsSaid said cause × (note ≡ note_of cause (word_at spot) (Some spot))

-- the number of the rule of linking that is of no file
abbrev pub no_main : ℕ
no_main = 4

-- the cause of a breach of another rule of linking, where this word stands at its place: a name is said to be defined twice also where two
-- texts are the module Main, of which the later one has no `module` line that would name it
pub data IsNameCause (error : LinkError) (word : List ℕ) : Cause → Type 0 where
  mains : error.rule ≡ 1 → word ≢ error.name → IsNameCause error word causes.TwoMains
  breach : (error.rule ≡ 1 → word ≡ error.name) → IsNameCause error word (causes.Linking error.rule)

-- the note on a breach of linking in a file with this text, of the name at fault; that there is no `OrcaMain` has no place
abbrev pub IsLinkNote : LinkError → List ℕ → List ℕ → Type 0
IsLinkNote error text note =
    ((error.rule ≡ no_main) × (note ≡ note_of (causes.Linking no_main) [] None))
    ⊎ ((spot : Spot) × (cause : Cause) × (error.rule ≢ no_main) × IsSpot spot error.file text error.at ×
    IsNameCause error (word_at spot) cause × (note ≡ note_of cause error.name (Some spot)))

-- the note on a breach of typing in a file with this text, of the word at its place
abbrev pub IsTypeNote : TypeError → List ℕ → List ℕ → Type 0
IsTypeNote error text note =
    (spot : Spot) × IsSpot spot error.file text error.at × (note ≡ note_of (causes.Typing error.rule) (word_at spot) (Some spot))
