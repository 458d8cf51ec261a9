use Rattle.std.proofs.Common.{zero, length}
use Rattle.orca_grammar.specs.Rules as rules
use Rattle.orca_grammar.specs.Grammar.{read}
use Rattle.orca_tree.specs.Marks as marks
use Rattle.parse_exprs.proofs.Loops.{Row}
use Rattle.parse_units.proofs.units.imports.Given as goal

abbrev pub invariant-parts : goal.invariant-parts
invariant-parts l = Row zero rules.import_line marks.import_line l.parts.items l.rest (read 0 rules.imports l.tokens)

abbrev pub decreases-parts : goal.decreases-parts
decreases-parts l = length l.rest
