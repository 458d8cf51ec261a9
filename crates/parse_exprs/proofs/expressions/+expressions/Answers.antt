use Rattle.std.proofs.Common.{◌≡◌, ◌-◌, List, [], ◌∷◌, ◌++◌, sym, ap, ◌∙◌, arith, length-append}
use Rattle.std.proofs.lemmas.Result.{err_from_is_err_and}
use Rattle.orca_grammar.specs.Forms.{Expression as ExpressionPhrase, Factor as FactorPhrase}
use Rattle.orca_grammar.specs.Grammar.{read}
use Rattle.orca_grammar.specs.Rules.{arguments as arguments_form, disjunction, operand as operand_form}
use Rattle.orca_tree.specs.declared.tree.Expression.{Expression}
use Rattle.orca_tree.specs.declared.tree.Link.{Link}
use Rattle.orca_tree.specs.Marks.{operand, expression as expression_marks, selector as selector_marks, selectors as selectors_marks}
use Rattle.parse_exprs.specs.Chains.{links_at}
use Rattle.parse_exprs.proofs.Readings.{nested_none, nested_read, in_brackets_read}
use Rattle.parse_exprs.proofs.ChainLemmas.{link_read, link_fails, link_shorter, links_end, links_break, links_go_on, links_last}
use Rattle.parse_exprs.proofs.ExpressionLemmas.{selector_shorter, selectors_break, selectors_go_on, selectors_end, arguments_none, arguments_fail, argument_first, argument_shorter, arguments_go_on}
use Rattle.parse_exprs.proofs.expressions.+expressions.Goals as goal

pub expression-returns-then-depth-eq0 : goal.expression-returns-then-depth-eq0
expression-returns-then-depth-eq0 t c = nested_none c.too_nested.result c.args.depth ExpressionPhrase c.args.tokens.now c.begins_expression.result c.if-depth-eq0.true c.begins_expression.ensures c.too_nested.ensures.why

pub expression-returns : goal.expression-returns
unfolding disjunction operand_form
expression-returns t c =
    let one = in_brackets_read operand c.chain_of.result ExpressionPhrase (read (c.args.depth - 1) disjunction c.args.tokens.now) c.chain_of.ensures in
    nested_read expression_marks c.chain_of.result c.args.depth ExpressionPhrase c.args.tokens.now (omega arith) one

pub factor-returns-then-depth-eq0 : goal.factor-returns-then-depth-eq0
factor-returns-then-depth-eq0 t c = nested_none c.too_nested.result c.args.depth FactorPhrase c.args.tokens.now c.begins_expression.result c.if-depth-eq0.true c.begins_expression.ensures c.too_nested.ensures.why

pub factor-returns : goal.factor-returns
factor-returns t c = nested_read operand c.alternative.result c.args.depth FactorPhrase c.args.tokens.now (omega arith) c.alternative.ensures

pub selectors-returns-in_err-step : goal.selectors-returns-in_err-step
selectors-returns-in_err-step t c =
    let p = err_from_is_err_and c.from_residual.result c.from_residual.ensures.1 in
    rw (p.1, p.2) (selectors_break c.args.depth c.args.tokens.now c.path.rest.now c.in_err-step.field-0.0 (selectors_marks c.path.path.items) c.path.invariant (sym c.begins_selector.ensures ∙ c.path-test.true) c.in_err-step.ensures)

pub selectors-path-smaller : goal.selectors-path-smaller
selectors-path-smaller t c =
    selector_shorter c.args.depth c.path.rest.now c.in_ok-step.after.now (selector_marks c.in_ok-step.step) c.in_ok-step.ensures

pub selectors-path-preserved : goal.selectors-path-preserved
selectors-path-preserved t c =
    rw c.in_ok-push.ensures.items (selectors_go_on c.args.depth c.args.tokens.now c.path.rest.now c.in_ok-step.after.now c.path.path.items c.in_ok-step.step c.path.invariant (sym c.begins_selector.ensures ∙ c.path-test.true) c.in_ok-step.ensures)

pub selectors-returns : goal.selectors-returns
selectors-returns t c =
    selectors_end c.args.depth c.args.tokens.now c.path.rest.now (selectors_marks c.path.path.items) c.path.invariant (sym c.begins_selector.ensures ∙ c.path-test.false)

pub arguments-returns-then-not-begins_expression : goal.arguments-returns-then-not-begins_expression
arguments-returns-then-not-begins_expression t c =
    rw c.new-arguments.ensures.items (arguments_none c.args.depth c.args.tokens.now (sym c.begins_expression.ensures ∙ c.if-not-begins_expression.true))

pub arguments-returns-in_err-first : goal.arguments-returns-in_err-first
arguments-returns-in_err-first t c =
    let p = err_from_is_err_and c.from_residual.result c.from_residual.ensures.1 in
    rw (p.1, p.2) (arguments_fail c.in_err-first.field-0.0 c.args.depth c.args.tokens.now (sym c.begins_expression.ensures ∙ c.if-not-begins_expression.false) c.in_err-first.ensures)

pub arguments-arguments-init : goal.arguments-arguments-init
arguments-arguments-init t c =
    let e : c.push.new.self.items ≡ c.in_ok-first.first ∷ [] = c.in_ok-push.ensures.items ∙ ap (λ (es : List Expression). es ++ c.in_ok-first.first ∷ []) c.new-arguments.ensures.items in
    rw e (omega arith, argument_first c.args.depth c.args.tokens.now c.in_ok-first.rest.now c.in_ok-first.first (sym c.begins_expression.ensures ∙ c.if-not-begins_expression.false) c.in_ok-first.ensures)

pub arguments-arguments-smaller : goal.arguments-arguments-smaller
arguments-arguments-smaller t c =
    argument_shorter c.args.depth c.arguments.rest.now c.in-Some.after.now c.in_ok-argument.next.now c.in_ok-argument.argument c.in-Some.ensures.1 c.in_ok-argument.ensures

pub arguments-arguments-preserved : goal.arguments-arguments-preserved
arguments-arguments-preserved t c =
    rw c.in_ok-push-2.ensures.items (
      omega (arith, length-append {A = Expression}),
      arguments_go_on c.args.depth c.arguments.rest.now (read c.args.depth arguments_form c.args.tokens.now) c.in-Some.after.now c.in_ok-argument.next.now c.arguments.arguments.items c.in_ok-argument.argument c.arguments.invariant.0 c.arguments.invariant.1 c.in-Some.ensures.0 c.in-Some.ensures.1 c.in_ok-argument.ensures,
    )

pub links-returns-in_err-right : goal.links-returns-in_err-right
links-returns-in_err-right t c =
    let p = err_from_is_err_and c.from_residual.result c.from_residual.ensures.1 in
    let bad = link_fails c.in_err-right.field-0.0 c.args.depth (links_at c.args.level) c.links.rest.now c.in-Some.after.now c.in-Some.operator (c.in-Some.ensures.1 c.args.depth) c.in_err-right.ensures in
    rw (p.1, p.2) (links_break c.in_err-right.field-0.0 c.args.depth (links_at c.args.level) c.args.tokens.now c.links.rest.now c.links.links.items c.links.invariant c.in-Some.ensures.0 bad)

pub links-returns-then-is_single : goal.links-returns-then-is_single
links-returns-then-is_single t c =
    let l : Link = record { operator = c.in-Some.operator; right = c.in_ok-right.right } in
    rw c.in_ok-push.ensures.items (links_last c.args.depth (links_at c.args.level) c.args.tokens.now c.links.rest.now c.in_ok-right.next.now c.links.links.items l (sym c.is_single.ensures ∙ c.if-is_single.true) c.links.invariant c.in-Some.ensures.0 c.in-Some.ensures.2
    (link_read c.args.depth (links_at c.args.level) c.links.rest.now c.in-Some.after.now c.in_ok-right.next.now c.in-Some.operator c.in_ok-right.right (c.in-Some.ensures.1 c.args.depth) c.in_ok-right.ensures))

pub links-links-smaller : goal.links-links-smaller
links-links-smaller t c =
    link_shorter c.args.depth (links_at c.args.level) c.links.rest.now c.in_ok-right.next.now _
    (link_read c.args.depth (links_at c.args.level) c.links.rest.now c.in-Some.after.now c.in_ok-right.next.now c.in-Some.operator c.in_ok-right.right (c.in-Some.ensures.1 c.args.depth) c.in_ok-right.ensures)

pub links-links-preserved : goal.links-links-preserved
links-links-preserved t c =
    let l : Link = record { operator = c.in-Some.operator; right = c.in_ok-right.right } in
    rw c.in_ok-push.ensures.items (links_go_on c.args.depth (links_at c.args.level) c.args.tokens.now c.links.rest.now c.in_ok-right.next.now c.links.links.items l (sym c.is_single.ensures ∙ c.if-is_single.false) c.links.invariant c.in-Some.ensures.0 c.in-Some.ensures.2
    (link_read c.args.depth (links_at c.args.level) c.links.rest.now c.in-Some.after.now c.in_ok-right.next.now c.in-Some.operator c.in_ok-right.right (c.in-Some.ensures.1 c.args.depth) c.in_ok-right.ensures))

pub links-returns : goal.links-returns
links-returns t c =
    links_end c.args.depth (links_at c.args.level) c.args.tokens.now c.links.rest.now c.links.links.items c.links.invariant c.in_default.ensures
