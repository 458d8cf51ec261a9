use Rattle.std.proofs.Common.{◌∷◌, ◌++◌, [], length}
use Rattle.orca_lexer.specs.declared.token.Symbol.TheVariants.{Semicolon}
use Rattle.orca_lexer.specs.declared.token.TokenKind.TheVariants.{Sign}
use Rattle.orca_grammar.specs.Rules as rules
use Rattle.orca_grammar.specs.Grammar.{read}
use Rattle.orca_tree.specs.Marks as marks
use Rattle.orca_tree.specs.Marks.{word}
use Rattle.parse_exprs.proofs.Loops.{Row}
use Rattle.parse_types.proofs.definitions.fields.Given as goal

abbrev pub invariant-parts : goal.invariant-parts
invariant-parts l = Row l.depth rules.field (λ h. marks.typed_name h ++ word (Sign Semicolon) ∷ []) l.parts.items l.rest (read l.depth rules.fields l.tokens)

abbrev pub decreases-parts : goal.decreases-parts
decreases-parts l = length l.rest
