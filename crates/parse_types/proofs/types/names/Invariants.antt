use Rattle.std.proofs.Common.{◌∷◌, [], length}
use Rattle.orca_lexer.specs.declared.token.Symbol.TheVariants.{Comma}
use Rattle.orca_grammar.specs.Rules.{name, names}
use Rattle.orca_grammar.specs.Grammar.{read}
use Rattle.orca_tree.specs.Marks.{name_mark}
use Rattle.parse_exprs.proofs.Loops.{Listed}
use Rattle.parse_types.proofs.types.names.Given as goal

abbrev pub invariant-names : goal.invariant-names
invariant-names l = Listed 0 Comma name (λ n. name_mark n ∷ []) l.names.items l.rest (read 0 names l.tokens)

abbrev pub decreases-names : goal.decreases-names
decreases-names l = length l.rest
