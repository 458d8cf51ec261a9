use Rattle.std.proofs.Common.{ℕ, List, ◌∷◌, ◌++◌, refl, sym, ap, ◌∙◌}
use Rattle.std.specs.Prelude.{option_map}
use Rattle.std.proofs.Math.ListN.{drop_of_length-le}
use Rattle.orca_tree.specs.declared.tree.Arm.{Arm as ArmTree}
use Rattle.orca_tree.specs.declared.tree.Expression.{Expression}
use Rattle.orca_tree.specs.declared.tree.Statement.{Statement}
use Rattle.orca_syntax.specs.Shown.{arm, arms, expr, exprs, stmt, stmts}
use Rattle.orca_syntax.specs.Syntax.{Stmt}
use Rattle.orca_syntax.proofs.ShownLaws.{for_is, if_is, otherwise_is, repeat_is, when_is, while_is}
use Rattle.site_estimates.specs.Numbers.{product}
use Rattle.access_estimates.specs.Seen.{all_seen}
use Rattle.estimate_rules.specs.Uses.{arguments_uses, arm_uses, arms_uses, called, expr_uses, exprs_uses, stmt_uses, stmts_uses, uses_if_any}
use Rattle.access_estimates.proofs.Rest.{appended, finished, grows, rest_is, same}
use Rattle.access_estimates.proofs.statements.+statements.Goals as goal

-- ---- lists

pub in_statements-statements-preserved : goal.in_statements-statements-preserved
in_statements-statements-preserved t c =
    let n = c.args.times in
    let x = c.statement-item.result in
    appended (all_seen c.statements.out.items) _ (stmt_uses n (stmt x)) _ _ _ (c.in_ok-in_statement.ensures {u = tt})
    (ap (λ (l : List Statement). stmts_uses n (stmts l)) (rest_is c.args.statements.now c.statements.statement-index x c.statements-test.true c.statement-item.is))
    c.statements.invariant

pub in_statements-returns : goal.in_statements-returns
in_statements-returns t c =
    finished (all_seen c.statements.out.items) _ _ (ap (λ (l : List Statement). stmts_uses c.args.times (stmts l)) (drop_of_length-le c.args.statements.now c.statements-test.false))
    c.statements.invariant

pub in_arms-arms-preserved : goal.in_arms-arms-preserved
in_arms-arms-preserved t c =
    let n = c.args.times in
    let x = c.arm-item.result in
    appended (all_seen c.arms.out.items) _ (arm_uses n (arm x)) _ _ _ (c.in_ok-in_arm.ensures {u = tt})
    (ap (λ (l : List ArmTree). arms_uses n (arms l)) (rest_is c.args.arms.now c.arms.arm-index x c.arms-test.true c.arm-item.is)) c.arms.invariant

pub in_arms-returns : goal.in_arms-returns
in_arms-returns t c =
    finished (all_seen c.arms.out.items) _ _ (ap (λ (l : List ArmTree). arms_uses c.args.times (arms l)) (drop_of_length-le c.args.arms.now c.arms-test.false)) c.arms.invariant

-- ---- statements

pub in_statement-returns-in-Return : goal.in_statement-returns-in-Return
in_statement-returns-in-Return t c =
    same c.in_any.result (all_seen c.args.out.now.items) _ _ _ (ap (λ (s : Statement). stmt_uses c.args.times (stmt s)) (sym c.in-Return.is)) c.in_any.ensures

pub in_statement-returns-in-If : goal.in_statement-returns-in-If
in_statement-returns-in-If t c =
    same c.in_arms.result (all_seen c.args.out.now.items) _ _ _
    (ap (λ (l : List ArmTree). arms_uses c.args.times (arms l)) c.deref.ensures.value
    ∙ sym (ap (λ (x : Stmt). stmt_uses c.args.times x) (ap stmt c.in-If.is ∙ if_is _ _)))
    c.in_arms.ensures

pub in_statement-returns-in-While : goal.in_statement-returns-in-While
in_statement-returns-in-While t c =
    let n = c.args.times in
    let a = c.in-While in
    same c.in_tested.result (all_seen c.args.out.now.items) _ _ _
    (ap (λ (k : ℕ). expr_uses k (expr a.test) ++ stmts_uses k (stmts c.deref-in-While.result.now)) c.ten_times.ensures
    ∙ ap (λ (l : List Statement). expr_uses (product 10 n) (expr a.test) ++ stmts_uses (product 10 n) (stmts l)) c.deref-in-While.ensures.value
    ∙ sym (ap (λ (x : Stmt). stmt_uses n x) (ap stmt a.is ∙ while_is _ _ _)))
    c.in_tested.ensures

pub in_statement-returns-in-For : goal.in_statement-returns-in-For
in_statement-returns-in-For t c =
    let n = c.args.times in
    let a = c.in-For in
    same c.in_counted.result (all_seen c.args.out.now.items) _ _ _
    (ap (λ (l : List Statement). expr_uses n (expr a.range.low) ++ (expr_uses n (expr a.range.high) ++ stmts_uses (product 10 n) (stmts l))) c.deref-in-For.ensures.value
    ∙ sym (ap (λ (x : Stmt). stmt_uses n x) (ap stmt a.is ∙ for_is _ _ _ _)))
    c.in_counted.ensures

pub in_statement-returns-in-Repeat : goal.in_statement-returns-in-Repeat
in_statement-returns-in-Repeat t c =
    let n = c.args.times in
    let a = c.in-Repeat in
    same c.in_repeated.result (all_seen c.args.out.now.items) _ _ _
    (ap (λ (k : ℕ). stmts_uses k (stmts c.deref-in-Repeat.result.now) ++ expr_uses k (expr a.test)) c.ten_times-in-Repeat.ensures
    ∙ ap (λ (l : List Statement). stmts_uses (product 10 n) (stmts l) ++ expr_uses (product 10 n) (expr a.test)) c.deref-in-Repeat.ensures.value
    ∙ sym (ap (λ (x : Stmt). stmt_uses n x) (ap stmt a.is ∙ repeat_is _ _ _)))
    c.in_repeated.ensures

pub in_statement-returns-in-Fork : goal.in_statement-returns-in-Fork
in_statement-returns-in-Fork t c =
    let n = c.args.times in
    let a = c.in-Fork in
    same c.in_fork.result (all_seen c.args.out.now.items) _ _ _
    (ap (λ (l : List Expression). arguments_uses n a.process 0 (exprs l) ++ uses_if_any n (option_map expr a.on)) c.deref-in-Fork.ensures.value
    ∙ ap (λ (s : Statement). stmt_uses n (stmt s)) (sym a.is))
    c.in_fork.ensures

pub in_statement-returns-in-WriteLine : goal.in_statement-returns-in-WriteLine
in_statement-returns-in-WriteLine t c =
    same c.in_expressions.result (all_seen c.args.out.now.items) _ _ _
    (ap (λ (l : List Expression). exprs_uses c.args.times (exprs l)) c.deref-in-WriteLine.ensures.value
    ∙ ap (λ (s : Statement). stmt_uses c.args.times (stmt s)) (sym c.in-WriteLine.is))
    c.in_expressions.ensures

pub in_statement-returns-in-Insert : goal.in_statement-returns-in-Insert
in_statement-returns-in-Insert t c =
    same c.in_element.result (all_seen c.args.out.now.items) _ _ _ (ap (λ (s : Statement). stmt_uses c.args.times (stmt s)) (sym c.in-Insert.is)) c.in_element.ensures

pub in_statement-returns-in-Delete : goal.in_statement-returns-in-Delete
in_statement-returns-in-Delete t c =
    same c.in_element-in-Delete.result (all_seen c.args.out.now.items) _ _ _ (ap (λ (s : Statement). stmt_uses c.args.times (stmt s)) (sym c.in-Delete.is)) c.in_element-in-Delete.ensures

pub in_statement-returns-in-Assign : goal.in_statement-returns-in-Assign
in_statement-returns-in-Assign t c =
    same c.in_assignment.result (all_seen c.args.out.now.items) _ _ _ (ap (λ (s : Statement). stmt_uses c.args.times (stmt s)) (sym c.in-Assign.is)) c.in_assignment.ensures

pub in_statement-returns-in-Call : goal.in_statement-returns-in-Call
in_statement-returns-in-Call t c =
    same c.in_arguments.result (all_seen c.args.out.now.items) _ _ _
    (ap (λ (l : List Expression). arguments_uses c.args.times c.in-Call.function 0 (exprs l)) c.deref-in-Call.ensures.value
    ∙ ap (λ (s : Statement). stmt_uses c.args.times (stmt s)) (sym c.in-Call.is))
    c.in_arguments.ensures

pub in_statement-returns-in-Invoke : goal.in_statement-returns-in-Invoke
in_statement-returns-in-Invoke t c =
    same c.in_operation.result (all_seen c.args.out.now.items) _ _ _
    (ap (λ (l : List Expression). called c.args.times c.in-Invoke.object c.in-Invoke.operation ∷ exprs_uses c.args.times (exprs l)) c.deref-in-Invoke.ensures.value
    ∙ ap (λ (s : Statement). stmt_uses c.args.times (stmt s)) (sym c.in-Invoke.is))
    c.in_operation.ensures

pub in_tested-returns : goal.in_tested-returns
in_tested-returns t c =
    grows c.in_statements.result (all_seen c.args.out.now.items) (all_seen c.in_expression.new.out.items) _ _ _ _ (c.in_ok-in_expression.ensures {u = tt}) refl c.in_statements.ensures

pub in_repeated-returns : goal.in_repeated-returns
in_repeated-returns t c =
    grows c.in_expression.result (all_seen c.args.out.now.items) (all_seen c.in_statements.new.out.items) _ _ _ _ (c.in_ok-in_statements.ensures {u = tt}) refl c.in_expression.ensures

pub in_counted-returns : goal.in_counted-returns
in_counted-returns t c =
    let n = c.args.times in
    let r = c.args.range.now in
    grows c.in_statements.result (all_seen c.args.out.now.items) (all_seen c.in_expression.new.out.items) _ _ _ _ (c.in_ok-in_expression.ensures {u = tt}) refl
    (grows c.in_statements.result (all_seen c.in_expression.new.out.items) (all_seen c.in_expression-2.new.out.items) _ _ _ _ (c.in_ok-in_expression-2.ensures {u = tt})
    (ap (λ (k : ℕ). expr_uses n (expr r.high) ++ stmts_uses k (stmts c.args.body.now)) c.ten_times.ensures) c.in_statements.ensures)

pub in_arm-returns-in-When : goal.in_arm-returns-in-When
in_arm-returns-in-When t c =
    same c.in_tested.result (all_seen c.args.out.now.items) _ _ _
    (ap (λ (l : List Statement). expr_uses c.args.times (expr c.in-When.test) ++ stmts_uses c.args.times (stmts l)) c.deref.ensures.value
    ∙ sym (ap (arm_uses c.args.times) (ap arm c.in-When.is ∙ when_is _ _)))
    c.in_tested.ensures

pub in_arm-returns-in-Otherwise : goal.in_arm-returns-in-Otherwise
in_arm-returns-in-Otherwise t c =
    same c.in_statements.result (all_seen c.args.out.now.items) _ _ _
    (ap (λ (l : List Statement). stmts_uses c.args.times (stmts l)) c.deref-in-Otherwise.ensures.value
    ∙ sym (ap (arm_uses c.args.times) (ap arm c.in-Otherwise.is ∙ otherwise_is _)))
    c.in_statements.ensures
