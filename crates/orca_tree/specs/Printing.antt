-- The text of a tree.
use Rattle.std.specs.Prelude.{ℕ, List}
use Rattle.std.specs.List.{AllByRecursion}
use Rattle.orca_lexer.specs.Spelling.{written, IsSound}
use Rattle.orca_grammar.specs.Forms.{spelled}
use Rattle.orca_tree.specs.declared.tree.Unit.{Unit as UnitTree}
use Rattle.orca_tree.specs.Marks.{unit}

-- its tokens, as the lexer's tokens are written
abbrev pub printed : UnitTree → List ℕ
printed u = written (spelled (unit u))

-- each of its tokens is one that a text may have: so it is for the tree of a text (orca_syntax, `syntax_law`: `sound`, `marks`)
abbrev pub AreWordsSound : UnitTree → Type 0
AreWordsSound u = AllByRecursion IsSound (spelled (unit u))
