use Rattle.std.proofs.Common.{◌∷◌, ◌++◌, [], length}
use Rattle.orca_lexer.specs.declared.token.Symbol.TheVariants.{Semicolon}
use Rattle.orca_lexer.specs.declared.token.TokenKind.TheVariants.{Sign}
use Rattle.orca_grammar.specs.Rules as rules
use Rattle.orca_grammar.specs.Grammar.{read}
use Rattle.orca_tree.specs.Marks as marks
use Rattle.orca_tree.specs.Marks.{word}
use Rattle.parse_exprs.proofs.Loops.{Row}
use Rattle.parse_declarations.proofs.operations.heads.Given as goal

abbrev pub invariant-parts : goal.invariant-parts
invariant-parts l = Row l.depth rules.head_line (λ h. marks.head h ++ word (Sign Semicolon) ∷ []) l.parts.items l.rest (read l.depth rules.heads l.tokens)

abbrev pub decreases-parts : goal.decreases-parts
decreases-parts l = length l.rest
