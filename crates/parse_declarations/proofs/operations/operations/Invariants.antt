use Rattle.std.proofs.Common.{length}
use Rattle.orca_grammar.specs.Rules as rules
use Rattle.orca_grammar.specs.Grammar.{read}
use Rattle.orca_tree.specs.Marks as marks
use Rattle.parse_exprs.proofs.Loops.{Row}
use Rattle.parse_declarations.proofs.operations.operations.Given as goal

abbrev pub invariant-parts : goal.invariant-parts
invariant-parts l = Row l.depth rules.operation marks.operation l.parts.items l.rest (read l.depth rules.operations l.tokens)

abbrev pub decreases-parts : goal.decreases-parts
decreases-parts l = length l.rest
