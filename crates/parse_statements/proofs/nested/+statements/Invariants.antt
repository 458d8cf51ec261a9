use Rattle.std.proofs.Common.{◌+◌, ◌*◌, length}
use Rattle.orca_lexer.specs.declared.token.TokenKind.TheVariants.{Sign}
use Rattle.orca_lexer.specs.declared.token.Symbol.TheVariants.{Semicolon}
use Rattle.std.proofs.Common.{◌∷◌, ◌++◌, []}
use Rattle.orca_grammar.specs.Rules as rules
use Rattle.orca_grammar.specs.Grammar.{read}
use Rattle.orca_tree.specs.Marks.{word, statement}
use Rattle.parse_exprs.proofs.Loops.{Row}
use Rattle.parse_statements.proofs.ArmLemmas.{Arms}
use Rattle.parse_statements.proofs.nested.+statements.Given as goal

abbrev pub decreases-statement : goal.decreases-statement
decreases-statement l = 16 * l.depth

abbrev pub decreases-alternative : goal.decreases-alternative
decreases-alternative l = 16 * l.depth + 8

abbrev pub decreases-if_statement : goal.decreases-if_statement
decreases-if_statement l = 16 * l.depth + 7

abbrev pub decreases-arms : goal.decreases-arms
decreases-arms l = 16 * l.depth + 6

abbrev pub decreases-when_arms : goal.decreases-when_arms
decreases-when_arms l = 16 * l.depth + 5

abbrev pub decreases-elsif_arm : goal.decreases-elsif_arm
decreases-elsif_arm l = 16 * l.depth + 4

abbrev pub decreases-when : goal.decreases-when
decreases-when l = 16 * l.depth + 3

abbrev pub decreases-otherwise : goal.decreases-otherwise
decreases-otherwise l = 16 * l.depth + 3

abbrev pub decreases-loop_rest : goal.decreases-loop_rest
decreases-loop_rest l = 16 * l.depth + 3

abbrev pub decreases-while_statement : goal.decreases-while_statement
decreases-while_statement l = 16 * l.depth + 4

abbrev pub decreases-range_rest : goal.decreases-range_rest
decreases-range_rest l = 16 * l.depth + 4

abbrev pub decreases-for_statement : goal.decreases-for_statement
decreases-for_statement l = 16 * l.depth + 5

abbrev pub decreases-repeat_rest : goal.decreases-repeat_rest
decreases-repeat_rest l = 16 * l.depth + 3

abbrev pub decreases-repeat_statement : goal.decreases-repeat_statement
decreases-repeat_statement l = 16 * l.depth + 4

abbrev pub decreases-statements : goal.decreases-statements
decreases-statements l = 16 * l.depth + 2

abbrev pub decreases-statement_line : goal.decreases-statement_line
decreases-statement_line l = 16 * l.depth + 1

abbrev pub invariant-statements-lines : goal.invariant-statements-lines
invariant-statements-lines l = Row l.depth rules.statement_line (λ s. statement s ++ word (Sign Semicolon) ∷ []) l.lines.items l.rest (read l.depth rules.statements l.tokens)

abbrev pub decreases-statements-lines : goal.decreases-statements-lines
decreases-statements-lines l = length l.rest

abbrev pub invariant-when_arms-arms : goal.invariant-when_arms-arms
invariant-when_arms-arms l = Arms l.depth l.arms.items l.rest (read l.depth rules.when_arms l.tokens)

abbrev pub decreases-when_arms-arms : goal.decreases-when_arms-arms
decreases-when_arms-arms l = length l.rest
