use Rattle.std.proofs.Common.{◌≡◌, ℕ, suc, ◌+◌, List, [], ◌∷◌, ◌++◌, drop, refl, sym, ap, ◌∙◌, arith}
use Rattle.std.proofs.Math.ListN.{drop_of_length-le}
use Rattle.orca_tree.specs.declared.tree.Expression.{Expression}
use Rattle.orca_tree.specs.declared.tree.Link.{Link}
use Rattle.orca_tree.specs.declared.tree.Selector.{Selector}
use Rattle.orca_syntax.specs.Shown.{expr, exprs, links, path, step}
use Rattle.orca_syntax.specs.Syntax as syn
use Rattle.orca_syntax.specs.Syntax.{Expr}
use Rattle.orca_syntax.proofs.ShownLaws.{call_is, chain_is, from_is, get_is, invoke_is}
use Rattle.access_estimates.specs.Seen.{all_seen}
use Rattle.estimate_rules.specs.Uses.{arguments_uses, called, expr_uses, exprs_uses, links_uses, passed, path_uses, step_uses}
use Rattle.access_estimates.proofs.Rest.{appended, finished, grows, rest_is, same}
use Rattle.access_estimates.proofs.expressions.+expressions.Goals as goal

-- ---- lists

pub in_links-links-preserved : goal.in_links-links-preserved
in_links-links-preserved t c =
    let n = c.args.times in
    let x = c.link-item.result in
    appended (all_seen c.links.out.items) _ (expr_uses n (expr x.right)) _ _ _ (c.in_ok-in_expression.ensures {u = tt})
    (ap (λ (l : List Link). links_uses n (links l)) (rest_is c.args.links.now c.links.link-index x c.links-test.true c.link-item.is)) c.links.invariant

pub in_links-returns : goal.in_links-returns
in_links-returns t c =
    finished (all_seen c.links.out.items) _ _ (ap (λ (l : List Link). links_uses c.args.times (links l)) (drop_of_length-le c.args.links.now c.links-test.false)) c.links.invariant

pub in_path-path-preserved : goal.in_path-path-preserved
in_path-path-preserved t c =
    let n = c.args.times in
    let x = c.step-item.result in
    appended (all_seen c.path.out.items) _ (step_uses n (step x)) _ _ _ (c.in_ok-in_step.ensures {u = tt})
    (ap (λ (l : List Selector). path_uses n (path l)) (rest_is c.args.path.now c.path.step-index x c.path-test.true c.step-item.is)) c.path.invariant

pub in_path-returns : goal.in_path-returns
in_path-returns t c =
    finished (all_seen c.path.out.items) _ _ (ap (λ (l : List Selector). path_uses c.args.times (path l)) (drop_of_length-le c.args.path.now c.path-test.false)) c.path.invariant

pub in_expressions-given-preserved : goal.in_expressions-given-preserved
in_expressions-given-preserved t c =
    let n = c.args.times in
    let x = c.e-item.result in
    appended (all_seen c.given.out.items) _ (expr_uses n (expr x)) _ _ _ (c.in_ok-in_expression.ensures {u = tt})
    (ap (λ (l : List Expression). exprs_uses n (exprs l)) (rest_is c.args.given.now c.given.e-index x c.given-test.true c.e-item.is)) c.given.invariant

pub in_expressions-returns : goal.in_expressions-returns
in_expressions-returns t c =
    finished (all_seen c.given.out.items) _ _ (ap (λ (l : List Expression). exprs_uses c.args.times (exprs l)) (drop_of_length-le c.args.given.now c.given-test.false)) c.given.invariant

pub in_arguments-given-preserved : goal.in_arguments-given-preserved
in_arguments-given-preserved t c =
    let n = c.args.times in
    let f = c.args.to.now in
    let i = c.given.position in
    let x = c.index-given-position.result in
    let next : suc i ≡ i + 1 = omega arith in
    let own = passed n f i (expr x) ++ expr_uses n (expr x) in
    appended (all_seen c.given.out.items) _ own _ _ _ (c.in_ok-in_argument.ensures {u = tt})
    (ap (λ (l : List Expression). arguments_uses n f i (exprs l)) (rest_is c.args.given.now i x c.given-test.true c.index-given-position.is)
    ∙ ap (λ (k : ℕ). own ++ arguments_uses n f k (exprs (drop (i + 1) c.args.given.now))) next) c.given.invariant

pub in_arguments-returns : goal.in_arguments-returns
in_arguments-returns t c =
    finished (all_seen c.given.out.items) _ _
    (ap (λ (l : List Expression). arguments_uses c.args.times c.args.to.now c.given.position (exprs l)) (drop_of_length-le c.args.given.now c.given-test.false)) c.given.invariant

-- ---- expressions

pub in_expression-returns-in_ok-in_expression-in-Chain : goal.in_expression-returns-in_ok-in_expression-in-Chain
in_expression-returns-in_ok-in_expression-in-Chain t c =
    let n = c.args.times in
    let a = c.in-Chain in
    grows c.in_links.result (all_seen c.args.out.now.items) (all_seen c.in_expression.new.out.items) _ _ _ _ (c.in_ok-in_expression-in-Chain.ensures {u = tt})
    (ap (λ (e : Expression). expr_uses n (expr e) ++ links_uses n (links c.deref-in-Chain.result.now)) c.deref.ensures
    ∙ ap (λ (ls : List Link). expr_uses n (expr a.first.value) ++ links_uses n (links ls)) c.deref-in-Chain.ensures.value
    ∙ sym (ap (λ (x : Expr). expr_uses n x) (ap expr a.is ∙ chain_is a.first a.links)))
    c.in_links.ensures

pub in_expression-returns-in-Not : goal.in_expression-returns-in-Not
in_expression-returns-in-Not t c =
    same c.in_expression-in-Not.result (all_seen c.args.out.now.items) _ _ _
    (ap (λ (x : Expr). expr_uses c.args.times x) (ap (λ (e : Expression). syn.Not c.in-Not.at (expr e)) c.deref-in-Not.ensures ∙ sym (ap expr c.in-Not.is)))
    c.in_expression-in-Not.ensures

pub in_expression-returns-in-Negative : goal.in_expression-returns-in-Negative
in_expression-returns-in-Negative t c =
    same c.in_expression-in-Negative.result (all_seen c.args.out.now.items) _ _ _
    (ap (λ (x : Expr). expr_uses c.args.times x) (ap (λ (e : Expression). syn.Negative c.in-Negative.at (expr e)) c.deref-in-Negative.ensures ∙ sym (ap expr c.in-Negative.is)))
    c.in_expression-in-Negative.ensures

pub in_expression-returns-in-Parentheses : goal.in_expression-returns-in-Parentheses
in_expression-returns-in-Parentheses t c =
    same c.in_expression-in-Parentheses.result (all_seen c.args.out.now.items) _ _ _
    (ap (λ (x : Expr). expr_uses c.args.times x) (ap (λ (e : Expression). syn.Parentheses c.in-Parentheses.at (expr e)) c.deref-in-Parentheses.ensures ∙ sym (ap expr c.in-Parentheses.is)))
    c.in_expression-in-Parentheses.ensures

pub in_expression-returns-in-Size : goal.in_expression-returns-in-Size
in_expression-returns-in-Size t c =
    same c.in_expression-in-Size.result (all_seen c.args.out.now.items) _ _ _
    (ap (λ (x : Expr). expr_uses c.args.times x) (ap (λ (e : Expression). syn.Size c.in-Size.at (expr e)) c.deref-in-Size.ensures ∙ sym (ap expr c.in-Size.is)))
    c.in_expression-in-Size.ensures

pub in_expression-returns-in-Ordinal : goal.in_expression-returns-in-Ordinal
in_expression-returns-in-Ordinal t c =
    same c.in_expression-in-Ordinal.result (all_seen c.args.out.now.items) _ _ _
    (ap (λ (x : Expr). expr_uses c.args.times x) (ap (λ (e : Expression). syn.Ordinal c.in-Ordinal.at (expr e)) c.deref-in-Ordinal.ensures ∙ sym (ap expr c.in-Ordinal.is)))
    c.in_expression-in-Ordinal.ensures

pub in_expression-returns-in-From : goal.in_expression-returns-in-From
in_expression-returns-in-From t c =
    same c.in_path.result (all_seen c.args.out.now.items) _ _ _
    (ap (λ (l : List Selector). path_uses c.args.times (path l)) c.deref-in-From.ensures.value
    ∙ sym (ap (λ (x : Expr). expr_uses c.args.times x) (ap expr c.in-From.is ∙ from_is c.in-From.at c.in-From.source)))
    c.in_path.ensures

pub in_expression-returns-in-Get : goal.in_expression-returns-in-Get
in_expression-returns-in-Get t c =
    same c.in_path-in-Get.result (all_seen c.args.out.now.items) _ _ _
    (ap (λ (l : List Selector). path_uses c.args.times (path l)) c.deref-in-Get.ensures.value
    ∙ sym (ap (λ (x : Expr). expr_uses c.args.times x) (ap expr c.in-Get.is ∙ get_is c.in-Get.from)))
    c.in_path-in-Get.ensures

pub in_expression-returns-in-Call : goal.in_expression-returns-in-Call
in_expression-returns-in-Call t c =
    same c.in_arguments.result (all_seen c.args.out.now.items) _ _ _
    (ap (λ (l : List Expression). arguments_uses c.args.times c.in-Call.function 0 (exprs l)) c.deref-in-Call.ensures.value
    ∙ sym (ap (λ (x : Expr). expr_uses c.args.times x) (ap expr c.in-Call.is ∙ call_is _ _)))
    c.in_arguments.ensures

pub in_expression-returns-in-Invoke : goal.in_expression-returns-in-Invoke
in_expression-returns-in-Invoke t c =
    same c.in_operation.result (all_seen c.args.out.now.items) _ _ _
    (ap (λ (l : List Expression). called c.args.times c.in-Invoke.object c.in-Invoke.operation ∷ exprs_uses c.args.times (exprs l)) c.deref-in-Invoke.ensures.value
    ∙ sym (ap (λ (x : Expr). expr_uses c.args.times x) (ap expr c.in-Invoke.is ∙ invoke_is _ _ _)))
    c.in_operation.ensures

pub in_step-returns-in-Index : goal.in_step-returns-in-Index
in_step-returns-in-Index t c =
    same c.in_expression.result (all_seen c.args.out.now.items) _ _ _ (ap (λ (s : Selector). step_uses c.args.times (step s)) (sym c.in-Index.is)) c.in_expression.ensures

pub in_argument-returns : goal.in_argument-returns
in_argument-returns t c =
    grows c.in_expression.result (all_seen c.args.out.now.items) (all_seen c.add_argument.new.out.items) _ _ _ _ (c.in_ok-add_argument.ensures {u = tt}) refl c.in_expression.ensures

pub in_operation-returns : goal.in_operation-returns
in_operation-returns t c =
    grows c.in_expressions.result (all_seen c.args.out.now.items) (all_seen c.add_call.new.out.items) _
    (called c.args.times c.args.object.now c.args.operation.now ∷ []) _ _ (c.in_ok-add_call.ensures {u = tt}) refl c.in_expressions.ensures
