use Rattle.std.proofs.Common.{◌≡◌, ◌++◌, drop}
use Rattle.std.specs.List.{flat_map}
use Rattle.orca_lexer.specs.declared.token.Symbol.TheVariants.{Comma}
use Rattle.orca_lexer.specs.declared.token.TokenKind.TheVariants.{Sign}
use Rattle.orca_grammar.specs.Forms.{spelled}
use Rattle.orca_tree.specs.Marks.{arguments, expression, link, selectors}
use Rattle.orca_tree.proofs.Led.{led_from}
use Rattle.orca_tree.proofs.spelling.Speller.+spell_expressions.Given as goal

abbrev pub invariant-links-loop-link : goal.invariant-links-loop-link
invariant-links-loop-link l = l.self ++ spelled (flat_map link (drop l.link-index l.links)) ≡ l.initial.self ++ spelled (flat_map link l.links)

abbrev pub invariant-arguments-loop-index : goal.invariant-arguments-loop-index
invariant-arguments-loop-index l = l.self ++ spelled (led_from (λ _. Sign Comma) expression l.index l.given) ≡ l.initial.self ++ spelled (arguments l.given)

abbrev pub invariant-path-loop-step : goal.invariant-path-loop-step
invariant-path-loop-step l = l.self ++ spelled (selectors (drop l.step-index l.path)) ≡ l.initial.self ++ spelled (selectors l.path)
