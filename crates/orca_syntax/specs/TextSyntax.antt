-- The syntax of a text.
use Rattle.std.specs.Prelude.{◌≡◌, ℕ, List, None}
use Rattle.std.specs.List.{AllByRecursion}
use Rattle.orca_base.specs.declared.limits.TheConstants.{NESTING}
use Rattle.orca_lexer.specs.declared.token.Token.{Token}
use Rattle.orca_lexer.specs.Spelling.{IsSound}
use Rattle.orca_lexer.specs.Tokens.{Tokens}
use Rattle.orca_grammar.specs.Forms.{Mark, first_deep, spelled, unplaced}
use Rattle.orca_grammar.specs.Grammar.{IsText}
use Rattle.orca_tree.specs.declared.tree.Unit.{Unit as UnitTree}
use Rattle.orca_tree.specs.Marks.{unit as unit_marks}
use Rattle.orca_tree.specs.Printing.{printed}
use Rattle.orca_syntax.specs.Syntax.{Syntax}
use Rattle.orca_syntax.specs.Shown.{syntax_of}
use Rattle.orca_syntax.specs.Bare.{bare}
use Rattle.orca_syntax.specs.Derivation.{syntax_marks}

-- these tokens are derived by the grammar, with the marks of this syntax
abbrev pub Reads : List Token → Syntax → Type 0
Reads tokens s = IsText (syntax_marks s) tokens

-- the text has tokens, and they are read so
pub record HasSyntax (text : List ℕ) (s : Syntax) : Type 0 where
  pub tokens : List Token
  pub are : Tokens text tokens
  pub derived : Reads tokens s

-- each of its tokens is one that a text may have: numbers from 0, below 2^63, names that are words and no keywords, and characters
-- of a text (orca_lexer, specs/Spelling.antt, `IsSound`)
abbrev pub AreWordsSound : Syntax → Type 0
AreWordsSound s = AllByRecursion IsSound (spelled (syntax_marks s))

-- what a tree shows is the syntax of each text that has the tree's marks
abbrev pub IsShown : UnitTree → Type 0
IsShown u = (text : List ℕ) (tokens : List Token) → Tokens text tokens → IsText (unit_marks u) tokens → HasSyntax text (syntax_of u)

-- marks that are derived by the grammar are those of a syntax
abbrev pub IsOfSyntax : List Mark → Type 0
IsOfSyntax ms = (s : Syntax) × (syntax_marks s ≡ ms)

-- the marks of the syntax without its places are its marks, places aside
abbrev pub LosesPlaces : Syntax → Type 0
LosesPlaces s = unplaced (syntax_marks (bare s)) ≡ unplaced (syntax_marks s)

-- where a tree is that of a text, the text that it is printed as has a syntax, which is the same, places aside
abbrev pub IsSyntaxReadBack : UnitTree → Type 0
IsSyntaxReadBack u = (text : List ℕ) → HasSyntax text (syntax_of u) → (s : Syntax) × HasSyntax (printed u) s × (bare s ≡ bare (syntax_of u))

-- the tree is that of a text, and nests no deeper than may be
pub record IsOfText (u : UnitTree) : Type 0 where
  pub text : List ℕ
  pub has : HasSyntax text (syntax_of u)
  pub nests : first_deep (unit_marks u) NESTING ≡ None
