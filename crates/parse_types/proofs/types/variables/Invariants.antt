use Rattle.std.proofs.Common.{length}
use Rattle.orca_grammar.specs.Rules.{variable_line, variables}
use Rattle.orca_grammar.specs.Grammar.{read}
use Rattle.orca_tree.specs.Marks as marks
use Rattle.parse_exprs.proofs.Loops.{Row}
use Rattle.parse_types.proofs.types.variables.Given as goal

abbrev pub invariant-lines : goal.invariant-lines
invariant-lines l = Row l.depth variable_line marks.variables l.lines.items l.rest (read l.depth variables l.tokens)

abbrev pub decreases-lines : goal.decreases-lines
decreases-lines l = length l.rest
