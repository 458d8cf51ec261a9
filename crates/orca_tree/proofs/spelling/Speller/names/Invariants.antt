use Rattle.std.proofs.Common.{◌≡◌, ◌∷◌, ◌++◌, []}
use Rattle.orca_lexer.specs.declared.token.Symbol.TheVariants.{Comma}
use Rattle.orca_lexer.specs.declared.token.TokenKind.TheVariants.{Sign}
use Rattle.orca_grammar.specs.Forms.{spelled}
use Rattle.orca_tree.specs.Marks.{name_mark, names}
use Rattle.orca_tree.proofs.Led.{led_from}
use Rattle.orca_tree.proofs.spelling.Speller.names.Given as goal

abbrev pub invariant-loop-index : goal.invariant-loop-index
invariant-loop-index l = l.self ++ spelled (led_from (λ _. Sign Comma) (λ n. name_mark n ∷ []) l.index l.all) ≡ l.initial.self ++ spelled (names l.all)
