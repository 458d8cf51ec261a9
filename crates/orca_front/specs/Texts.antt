-- What is said of one text: that it is a unit, or why it is none (docs/FORMATS.md, Statuses).
use Rattle.std.specs.Prelude.{◌≡◌, ℕ, List, [], ◌∷◌, ◌++◌, None, Result, Ok, Err, slice_range, codes}
use Rattle.orca_base.specs.declared.limits.TheConstants.{NESTING}
use Rattle.orca_base.specs.declared.place.Place.{Place}
use Rattle.orca_base.specs.declared.refusal.Refusal.{Refusal}
use Rattle.orca_base.specs.declared.refusal.Refusal.TheVariants.{Because, NoMemory}
use Rattle.orca_lexer.specs.declared.error.LexError.{LexError}
use Rattle.orca_lexer.specs.declared.token.Token.{Token}
use Rattle.orca_lexer.specs.Refusal as lexer
use Rattle.orca_lexer.specs.Rules.{message_of}
use Rattle.orca_lexer.specs.Tokens.{Tokens}
use Rattle.orca_grammar.specs.Forms.{first_deep}
use Rattle.orca_grammar.specs.Grammar.{IsUnexpected, IsTooNested}
use Rattle.orca_tree.specs.declared.tree.Unit.{Unit as UnitTree}
use Rattle.orca_tree.specs.Marks.{unit as unit_marks}
use Rattle.orca_syntax.specs.Shown.{syntax_of}
use Rattle.orca_syntax.specs.TextSyntax.{HasSyntax}
use Rattle.parse_units.specs.declared.parse_error.ParseError.{ParseError}
use Rattle.parse_units.specs.Refused.{end_of_text, IsRefusal}
use Rattle.orca_front.specs.declared.reading.TextFault.{TextFault}
use Rattle.orca_front.specs.declared.reading.TextFault.TheVariants.{Faulty, TooNested}

-- why a text is no unit, the place, and what is said of it
pub data IsFaulty (text : List ℕ) : Place → List ℕ → Type 0 where
  -- it has no tokens
  lexical : (error : LexError) → lexer.IsRefusal text error → IsFaulty text error.at (message_of error.rule)
  -- a token with which no unit goes on
  token : (tokens front rest : List Token) (t : Token) → Tokens text tokens → IsUnexpected tokens front (t ∷ rest) →
      IsFaulty text t.at (codes "unexpected '" ++ (slice_range text t.start t.end ++ codes "'"))
  -- the text's end, where no unit ends
  end : (tokens front : List Token) → Tokens text tokens → IsUnexpected tokens front [] →
      IsFaulty text (end_of_text tokens) (codes "unexpected end of text")

-- a token of the text stands in more than NESTING nested phrases
pub record IsTooDeep (text : List ℕ) : Type 0 where
  pub tokens : List Token
  pub front : List Token
  pub token : Token
  pub rest : List Token
  pub has : Tokens text tokens
  pub nested : IsTooNested tokens front token rest

-- the text is this unit, which nests no deeper than a text may
pub record IsUnitOf (text : List ℕ) (u : UnitTree) : Type 0 where
  pub has : HasSyntax text (syntax_of u)
  pub nests : first_deep (unit_marks u) NESTING ≡ None
  pub shallow : IsTooDeep text → ⊥

-- the answer fits the text: the unit that it is, or why it is none
abbrev pub FitsText : List ℕ → Result UnitTree (Refusal TextFault) → Type 0
FitsText text (Ok u) = IsUnitOf text u
FitsText text (Err (Because (Faulty at words))) = IsFaulty text at words.items × (IsTooDeep text → ⊥)
FitsText text (Err (Because TooNested)) = IsTooDeep text
FitsText text (Err NoMemory) = Unit {0}

-- the text has tokens, and they are no unit for this reason
pub record IsSyntactic (text : List ℕ) (error : ParseError) : Type 0 where
  pub tokens : List Token
  pub has : Tokens text tokens
  pub refused : IsRefusal tokens error
