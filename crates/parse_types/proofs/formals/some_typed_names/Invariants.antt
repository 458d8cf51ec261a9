use Rattle.std.proofs.Common.{length}
use Rattle.orca_lexer.specs.declared.token.Symbol.TheVariants.{Semicolon}
use Rattle.orca_grammar.specs.Rules as rules
use Rattle.orca_grammar.specs.Grammar.{read}
use Rattle.orca_tree.specs.Marks as marks
use Rattle.parse_exprs.proofs.Loops.{Listed}
use Rattle.parse_types.proofs.formals.some_typed_names.Given as goal

abbrev pub invariant-parts : goal.invariant-parts
invariant-parts l = Listed l.depth Semicolon rules.typed_name marks.typed_name l.parts.items l.rest (read l.depth (rules.listed (rules.sign Semicolon) rules.typed_name) l.tokens)

abbrev pub decreases-parts : goal.decreases-parts
decreases-parts l = length l.rest
