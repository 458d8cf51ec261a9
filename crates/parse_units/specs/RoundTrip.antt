-- A unit that is printed is read back, places aside, and its text is not too long to be read.
use Rattle.std.specs.Prelude.{◌≡◌, ℕ, ◌-◌, ◌<◌, ◌^◌, List, None, length}
use Rattle.orca_base.specs.declared.limits.TheConstants.{NESTING}
use Rattle.orca_lexer.specs.declared.token.Token.{Token}
use Rattle.orca_lexer.specs.Tokens.{Tokens}
use Rattle.orca_grammar.specs.Forms.{Mark, first_deep, unplaced}
use Rattle.orca_grammar.specs.Grammar.{IsText}
use Rattle.orca_tree.specs.declared.tree.Unit.{Unit as UnitTree}
use Rattle.orca_tree.specs.Marks.{unit as unit_marks}
use Rattle.orca_tree.specs.Printing.{printed}

-- tokens are read as this unit: they are one that nests no deeper than may be, and it is the same, places aside
pub record AreReadAs (u : UnitTree) (tokens : List Token) : Type 0 where
  pub marks : List Mark
  pub are : IsText marks tokens
  pub nests : first_deep marks NESTING ≡ None
  pub same : unplaced marks ≡ unplaced (unit_marks u)

-- the printed text of a unit has tokens, and they are read as the unit
pub record IsReadBack (u : UnitTree) : Type 0 where
  pub tokens : List Token
  pub are : Tokens (printed u) tokens
  pub read : (others : List Token) → Tokens (printed u) others → AreReadAs u others

-- so it is for a unit that was read from a text
abbrev pub ReadsBack : UnitTree → Type 0
ReadsBack u = (text : List ℕ) (tokens : List Token) → Tokens text tokens → IsText (unit_marks u) tokens →
    first_deep (unit_marks u) NESTING ≡ None → IsReadBack u

-- the text is short enough to be read, where the one that the unit was read from is below half of that
abbrev pub StaysShort : UnitTree → Type 0
StaysShort u = (text : List ℕ) (tokens : List Token) → Tokens text tokens → IsText (unit_marks u) tokens → length text < 2 ^ 31 - 1 →
    length (printed u) < 2 ^ 32 - 1
