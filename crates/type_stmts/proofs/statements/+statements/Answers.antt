use Rattle.std.proofs.Common.{ℕ, ◌||◌, List, ◌++◌, subst, sym, ap, ◌∙◌}
use Rattle.std.specs.Prelude.{IfOk, bytes_eq}
use Rattle.std.specs.Borrow.{Bor}
use Rattle.orca_tree.specs.declared.tree.Arm.{Arm as ArmTree}
use Rattle.orca_tree.specs.declared.tree.Statement.{Statement}
use Rattle.orca_syntax.specs.Syntax as syn
use Rattle.orca_syntax.specs.Syntax.{Arm, Stmt}
use Rattle.orca_syntax.specs.Shown.{arm, arms, expr, stmt, stmts}
use Rattle.orca_syntax.proofs.ShownLaws.{for_is, if_is, otherwise_is, repeat_is, when_is, while_is}
use Rattle.type_rules.specs.Types.{is_boolean, is_integer}
use Rattle.type_rules.specs.Statements.{arm_breaches, counts, stmt_breaches, stmts_breaches, wants, with_loop}
use Rattle.type_forms.specs.Finding.{FirstOf}
use Rattle.type_exprs.specs.Scoped.{counts as counts_in}
use Rattle.type_exprs.proofs.Firsts.{first_of_three, first_of_two}
use Rattle.type_stmts.proofs.OneMore.{arm_more, statement_more}
use Rattle.type_stmts.proofs.statements.+statements.Goals as goal

pub stmts_breach-statements-preserved : goal.stmts_breach-statements-preserved
stmts_breach-statements-preserved t c = λ w s.
    statement_more w c.args.statements.now c.statements.statement-index c.statement-item.result c.statements.first c.in_ok-own.own c.lesser-first.result _
    c.statements-test.true c.statement-item.is ((c.in_ok-own.ensures {u = tt}) w s) c.lesser-first.ensures (c.statements.invariant w s)

pub arms_breach-arms-preserved : goal.arms_breach-arms-preserved
arms_breach-arms-preserved t c = λ w s.
    arm_more w c.args.arms.now c.arms.arm-index c.arm-item.result c.arms.first c.in_ok-own.own c.lesser-first.result _
    c.arms-test.true c.arm-item.is ((c.in_ok-own.ensures {u = tt}) w s) c.lesser-first.ensures (c.arms.invariant w s)

pub tested-returns : goal.tested-returns
tested-returns t c = λ w s.
    first_of_two c.in_ok-own.own c.in_ok-behind.behind c.lesser.result (wants w 21 is_boolean (expr c.args.test.now)) (stmts_breaches w (stmts c.args.inside.now))
    c.lesser.ensures ((c.in_ok-own.ensures {u = tt}) w s.scope) ((c.in_ok-behind.ensures {u = tt}) w s)

pub repeat_breach-returns : goal.repeat_breach-returns
repeat_breach-returns t c = λ w s.
    first_of_two c.in_ok-own.own c.in_ok-behind.behind c.lesser.result (stmts_breaches w (stmts c.args.inside.now)) (wants w 21 is_boolean (expr c.args.test.now))
    c.lesser.ensures ((c.in_ok-own.ensures {u = tt}) w s) ((c.in_ok-behind.ensures {u = tt}) w s.scope)

pub for_breach-returns : goal.for_breach-returns
for_breach-returns t c = λ w s.
    let n = c.args.name.now in
    let low = wants w 22 is_integer (expr c.args.range.now.low) in
    let high = wants w 22 is_integer (expr c.args.range.now.high) in
    let inside = stmts_breaches (with_loop w n) (stmts c.args.inside.now) in
    first_of_two c.counts-own.result c.lesser-2.result c.lesser-3.result (counts w n) (low ++ (high ++ inside)) c.lesser-3.ensures
    (c.counts-own.ensures w s.scope s.order)
    (first_of_three c.in_ok-low.low c.in_ok-high.high c.in_ok-behind.behind c.lesser.result c.lesser-2.result low high inside c.lesser.ensures c.lesser-2.ensures
    ((c.in_ok-low.ensures {u = tt}) w s.scope) ((c.in_ok-high.ensures {u = tt}) w s.scope) ((c.in_ok-behind.ensures {u = tt}) w s))

pub counted-returns : goal.counted-returns
counted-returns t c = λ w s.
    let n = c.args.name.now in
    (c.in_ok-first.ensures {u = tt}) (with_loop w n)
    (c.in_loops.ensures w s n (λ m.
    ap (λ (l : List (Bor (List ℕ))). counts_in l m) c.deref.ensures.value
    ∙ (c.in_ok-loops.ensures {u = tt}) m
    ∙ ap (λ (k : List ℕ). counts_in c.args.body.scope.loops.now m || bytes_eq k m) c.as_str.ensures))

pub stmt_breach-returns-in-If : goal.stmt_breach-returns-in-If
stmt_breach-returns-in-If t c = λ w s.
    subst (λ (x : Stmt). IfOk c.arms_breach.result (λ o. FirstOf o (stmt_breaches w x)))
    (ap (λ (l : List ArmTree). syn.If c.in-If.at (arms l)) c.deref.ensures.value ∙ sym (ap stmt c.in-If.is ∙ if_is _ _))
    (c.arms_breach.ensures w s)

pub stmt_breach-returns-in-While : goal.stmt_breach-returns-in-While
stmt_breach-returns-in-While t c = λ w s.
    subst (λ (x : Stmt). IfOk c.tested.result (λ o. FirstOf o (stmt_breaches w x)))
    (ap (λ (l : List Statement). syn.While c.in-While.at (expr c.in-While.test) (stmts l)) c.deref-in-While.ensures.value ∙ sym (ap stmt c.in-While.is ∙ while_is _ _ _))
    (c.tested.ensures w s)

pub stmt_breach-returns-in-For : goal.stmt_breach-returns-in-For
stmt_breach-returns-in-For t c = λ w s.
    let a = c.in-For in
    subst (λ (x : Stmt). IfOk c.for_breach.result (λ o. FirstOf o (stmt_breaches w x)))
    (ap (λ (l : List Statement). syn.For a.at a.name (expr a.range.low) (expr a.range.high) (stmts l)) c.deref-in-For.ensures.value
    ∙ sym (ap stmt a.is ∙ for_is _ _ _ _))
    (c.for_breach.ensures w s)

pub stmt_breach-returns-in-Repeat : goal.stmt_breach-returns-in-Repeat
stmt_breach-returns-in-Repeat t c = λ w s.
    subst (λ (x : Stmt). IfOk c.repeat_breach.result (λ o. FirstOf o (stmt_breaches w x)))
    (ap (λ (l : List Statement). syn.Repeat c.in-Repeat.at (stmts l) (expr c.in-Repeat.test)) c.deref-in-Repeat.ensures.value
    ∙ sym (ap stmt c.in-Repeat.is ∙ repeat_is _ _ _))
    (c.repeat_breach.ensures w s)

pub arm_breach-returns-in-When : goal.arm_breach-returns-in-When
arm_breach-returns-in-When t c = λ w s.
    subst (λ (x : Arm). IfOk c.tested.result (λ o. FirstOf o (arm_breaches w x)))
    (ap (λ (l : List Statement). syn.When (expr c.in-When.test) (stmts l)) c.deref.ensures.value ∙ sym (ap arm c.in-When.is ∙ when_is _ _))
    (c.tested.ensures w s)

pub arm_breach-returns-in-Otherwise : goal.arm_breach-returns-in-Otherwise
arm_breach-returns-in-Otherwise t c = λ w s.
    subst (λ (x : Arm). IfOk c.stmts_breach.result (λ o. FirstOf o (arm_breaches w x)))
    (ap (λ (l : List Statement). syn.Otherwise (stmts l)) c.deref-in-Otherwise.ensures.value ∙ sym (ap arm c.in-Otherwise.is ∙ otherwise_is _))
    (c.stmts_breach.ensures w s)
