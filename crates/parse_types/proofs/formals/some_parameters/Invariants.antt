use Rattle.std.proofs.Common.{length}
use Rattle.orca_lexer.specs.declared.token.Symbol.TheVariants.{Semicolon}
use Rattle.orca_grammar.specs.Rules as rules
use Rattle.orca_grammar.specs.Grammar.{read}
use Rattle.orca_tree.specs.Marks as marks
use Rattle.parse_exprs.proofs.Loops.{Listed}
use Rattle.parse_types.proofs.formals.some_parameters.Given as goal

abbrev pub invariant-parts : goal.invariant-parts
invariant-parts l = Listed l.depth Semicolon rules.parameter marks.parameter l.parts.items l.rest (read l.depth (rules.listed (rules.sign Semicolon) rules.parameter) l.tokens)

abbrev pub decreases-parts : goal.decreases-parts
decreases-parts l = length l.rest
