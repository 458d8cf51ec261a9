-- The text of a tree with sound words is UTF-8.
use Rattle.std.specs.Str.{IsUtf8}
use Rattle.orca_lexer.proofs.ReadsBack.{reads_back}
use Rattle.orca_tree.specs.declared.tree.Unit.{Unit as UnitTree}
use Rattle.orca_tree.specs.Printing.{printed, AreWordsSound}
use Rattle.orca_tree.specs.Marks.{unit}
use Rattle.orca_grammar.specs.Forms.{spelled}

pub printed_text : (u : UnitTree) → AreWordsSound u → IsUtf8 (printed u)
printed_text u sound = (reads_back (spelled (unit u)) sound).are.utf8
