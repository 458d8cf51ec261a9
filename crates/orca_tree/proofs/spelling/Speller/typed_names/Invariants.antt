use Rattle.std.proofs.Common.{◌≡◌, ◌++◌}
use Rattle.orca_lexer.specs.declared.token.Symbol.TheVariants.{Semicolon}
use Rattle.orca_lexer.specs.declared.token.TokenKind.TheVariants.{Sign}
use Rattle.orca_grammar.specs.Forms.{spelled}
use Rattle.orca_tree.specs.Marks.{typed_name, typed_names}
use Rattle.orca_tree.proofs.Led.{led_from}
use Rattle.orca_tree.proofs.spelling.Speller.typed_names.Given as goal

abbrev pub invariant-loop-index : goal.invariant-loop-index
invariant-loop-index l = l.self ++ spelled (led_from (λ _. Sign Semicolon) typed_name l.index l.all) ≡ l.initial.self ++ spelled (typed_names l.all)
