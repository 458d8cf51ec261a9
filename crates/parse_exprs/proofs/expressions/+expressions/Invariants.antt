-- Each call has fewer levels of nesting left, or stands lower in the grammar; each turn of a loop leaves fewer tokens.
use Rattle.std.proofs.Common.{◌≡◌, ℕ, ◌<◌, ◌+◌, ◌*◌, length}
use Rattle.orca_grammar.specs.Forms.{Many}
use Rattle.orca_grammar.specs.Grammar.{read}
use Rattle.orca_grammar.specs.Reading.{behind}
use Rattle.orca_grammar.specs.Rules.{arguments as arguments_form, selector as selector_form}
use Rattle.orca_tree.specs.Marks.{arguments as arguments_marks, selectors as selectors_marks}
use Rattle.parse_exprs.specs.declared.operators.Level.{Level}
use Rattle.parse_exprs.specs.declared.operators.Level.TheVariants as levels
use Rattle.parse_exprs.specs.Chains.{links_at}
use Rattle.parse_exprs.proofs.ChainLemmas.{IsReadTo}
use Rattle.parse_exprs.proofs.ExpressionLemmas.{argument_more}
use Rattle.parse_exprs.proofs.expressions.+expressions.Given as goal

abbrev pub decreases-expression : goal.decreases-expression
decreases-expression l = 32 * l.depth

abbrev pub decreases-factor : goal.decreases-factor
decreases-factor l = 32 * l.depth

-- how loosely a level binds
abbrev rank : Level → ℕ
rank levels.Term = 0
rank levels.Sum = 1
rank levels.Relation = 2
rank levels.Conjunction = 3
rank levels.Disjunction = 4

abbrev pub decreases-operand_of : goal.decreases-operand_of
decreases-operand_of l = 32 * l.depth + 4 * rank l.level + 1

abbrev pub decreases-links : goal.decreases-links
decreases-links l = 32 * l.depth + 4 * rank l.level + 2

abbrev pub decreases-chain_of : goal.decreases-chain_of
decreases-chain_of l = 32 * l.depth + 4 * rank l.level + 3

abbrev pub decreases-in_parentheses : goal.decreases-in_parentheses
decreases-in_parentheses l = 32 * l.depth + 1

abbrev pub decreases-selector : goal.decreases-selector
decreases-selector l = 32 * l.depth + 1

abbrev pub decreases-selectors : goal.decreases-selectors
decreases-selectors l = 32 * l.depth + 2

abbrev pub decreases-designator_in_parentheses : goal.decreases-designator_in_parentheses
decreases-designator_in_parentheses l = 32 * l.depth + 3

abbrev pub decreases-arguments : goal.decreases-arguments
decreases-arguments l = 32 * l.depth + 1

abbrev pub decreases-argument_list : goal.decreases-argument_list
decreases-argument_list l = 32 * l.depth + 2

abbrev pub decreases-invocation_rest : goal.decreases-invocation_rest
decreases-invocation_rest l = 32 * l.depth + 3

abbrev pub decreases-named : goal.decreases-named
decreases-named l = 32 * l.depth + 4

abbrev pub decreases-alternative : goal.decreases-alternative
decreases-alternative l = 32 * l.depth + 5

-- what was read so far stands in front of what is still read
abbrev pub invariant-selectors-path : goal.invariant-selectors-path
invariant-selectors-path l = read l.depth (Many selector_form) l.tokens ≡ behind (selectors_marks l.path.items) (read l.depth (Many selector_form) l.rest)

abbrev pub decreases-selectors-path : goal.decreases-selectors-path
decreases-selectors-path l = length l.rest

abbrev pub invariant-arguments-arguments : goal.invariant-arguments-arguments
invariant-arguments-arguments l = (0 < length l.arguments.items) × (read l.depth arguments_form l.tokens ≡ behind (arguments_marks l.arguments.items) (read l.depth (Many argument_more) l.rest))

abbrev pub decreases-arguments-arguments : goal.decreases-arguments-arguments
decreases-arguments-arguments l = length l.rest

abbrev pub invariant-links-links : goal.invariant-links-links
invariant-links-links l = IsReadTo l.depth (links_at l.level) l.tokens l.rest l.links.items

abbrev pub decreases-links-links : goal.decreases-links-links
decreases-links-links l = length l.rest
