use Rattle.std.proofs.Common.{ℕ, ◌||◌, List, ◌∷◌, sym, ap, ◌∙◌}
use Rattle.std.proofs.Math.ListN.{drop_of_length-le}
use Rattle.orca_tree.specs.declared.tree.Arm.{Arm as ArmTree}
use Rattle.orca_tree.specs.declared.tree.Statement.{Statement}
use Rattle.orca_syntax.specs.Shown.{arm, arms, expr, stmt, stmts}
use Rattle.orca_syntax.proofs.ShownLaws.{for_is, if_is, otherwise_is, repeat_is, when_is, while_is}
use Rattle.type_rules.specs.Statements.{with_loop}
use Rattle.type_forms.proofs.Loops.{rest_is}
use Rattle.meaning_rules.specs.Classes.{arm_changes, arms_change, changes, stmt_changes, stmts_change}
use Rattle.access_analysis.specs.Loops.{variables_of}
use Rattle.access_analysis.proofs.Changing.{none_yet, one_does}
use Rattle.access_analysis.proofs.statements.+statements.Goals as goal

-- ---- lists

pub stmts_change-statements-preserved : goal.stmts_change-statements-preserved
stmts_change-statements-preserved t c = λ w s.
    let x = c.statement-item.result in
    none_yet (stmt_changes w (stmt x)) _ _ _
    (ap (λ (l : List Statement). stmts_change w (stmts l)) (rest_is c.args.statements.now c.statements.statement-index x c.statements-test.true c.statement-item.is))
    (sym (c.stmt_changes.ensures w s) ∙ c.if-stmt_changes.false) (c.statements.invariant w s)

pub stmts_change-returns-then-stmt_changes : goal.stmts_change-returns-then-stmt_changes
stmts_change-returns-then-stmt_changes t c = λ w s.
    let x = c.statement-item.result in
    one_does (stmt_changes w (stmt x)) _ _ _
    (ap (λ (l : List Statement). stmts_change w (stmts l)) (rest_is c.args.statements.now c.statements.statement-index x c.statements-test.true c.statement-item.is))
    (sym (c.stmt_changes.ensures w s) ∙ c.if-stmt_changes.true) (c.statements.invariant w s)

pub stmts_change-returns : goal.stmts_change-returns
stmts_change-returns t c = λ w s.
    ap (λ (l : List Statement). stmts_change w (stmts l)) (sym (drop_of_length-le c.args.statements.now c.statements-test.false)) ∙ c.statements.invariant w s

pub arms_change-arms-preserved : goal.arms_change-arms-preserved
arms_change-arms-preserved t c = λ w s.
    let x = c.arm-item.result in
    none_yet (arm_changes w (arm x)) _ _ _ (ap (λ (l : List ArmTree). arms_change w (arms l)) (rest_is c.args.arms.now c.arms.arm-index x c.arms-test.true c.arm-item.is))
    (sym (c.arm_changes.ensures w s) ∙ c.if-arm_changes.false) (c.arms.invariant w s)

pub arms_change-returns-then-arm_changes : goal.arms_change-returns-then-arm_changes
arms_change-returns-then-arm_changes t c = λ w s.
    let x = c.arm-item.result in
    one_does (arm_changes w (arm x)) _ _ _ (ap (λ (l : List ArmTree). arms_change w (arms l)) (rest_is c.args.arms.now c.arms.arm-index x c.arms-test.true c.arm-item.is))
    (sym (c.arm_changes.ensures w s) ∙ c.if-arm_changes.true) (c.arms.invariant w s)

pub arms_change-returns : goal.arms_change-returns
arms_change-returns t c = λ w s.
    ap (λ (l : List ArmTree). arms_change w (arms l)) (sym (drop_of_length-le c.args.arms.now c.arms-test.false)) ∙ c.arms.invariant w s

-- ---- statements

pub counted-returns : goal.counted-returns
counted-returns t c = λ w s.
    let n = c.args.name.now in
    c.stmts_change.ensures (with_loop w n) (c.in_loops.ensures w s n (ap (λ (m : List ℕ). m ∷ variables_of c.args.site.loops.now) c.as_str.ensures))

pub stmt_changes-returns-in-If : goal.stmt_changes-returns-in-If
stmt_changes-returns-in-If t c = λ w s.
    c.arms_change.ensures w s
    ∙ ap (λ (l : List ArmTree). arms_change w (arms l)) c.deref.ensures.value
    ∙ sym (ap (stmt_changes w) (ap stmt c.in-If.is ∙ if_is _ _))

pub stmt_changes-returns-in-While : goal.stmt_changes-returns-in-While
stmt_changes-returns-in-While t c = λ w s.
    c.tested.ensures w s
    ∙ ap (λ (l : List Statement). changes w (expr c.in-While.test) || stmts_change w (stmts l)) c.deref-in-While.ensures.value
    ∙ sym (ap (stmt_changes w) (ap stmt c.in-While.is ∙ while_is _ _ _))

pub stmt_changes-returns-in-For : goal.stmt_changes-returns-in-For
stmt_changes-returns-in-For t c = λ w s.
    let a = c.in-For in
    c.for_changes.ensures w s
    ∙ ap (λ (l : List Statement). changes w (expr a.range.low) || (changes w (expr a.range.high) || stmts_change (with_loop w a.name) (stmts l)))
    c.deref-in-For.ensures.value
    ∙ sym (ap (stmt_changes w) (ap stmt a.is ∙ for_is _ _ _ _))

pub stmt_changes-returns-in-Repeat : goal.stmt_changes-returns-in-Repeat
stmt_changes-returns-in-Repeat t c = λ w s.
    c.repeat_changes.ensures w s
    ∙ ap (λ (l : List Statement). stmts_change w (stmts l) || changes w (expr c.in-Repeat.test)) c.deref-in-Repeat.ensures.value
    ∙ sym (ap (stmt_changes w) (ap stmt c.in-Repeat.is ∙ repeat_is _ _ _))

pub arm_changes-returns-in-When : goal.arm_changes-returns-in-When
arm_changes-returns-in-When t c = λ w s.
    c.tested.ensures w s
    ∙ ap (λ (l : List Statement). changes w (expr c.in-When.test) || stmts_change w (stmts l)) c.deref.ensures.value
    ∙ sym (ap (arm_changes w) (ap arm c.in-When.is ∙ when_is _ _))

pub arm_changes-returns-in-Otherwise : goal.arm_changes-returns-in-Otherwise
arm_changes-returns-in-Otherwise t c = λ w s.
    c.stmts_change.ensures w s
    ∙ ap (λ (l : List Statement). stmts_change w (stmts l)) c.deref-in-Otherwise.ensures.value
    ∙ sym (ap (arm_changes w) (ap arm c.in-Otherwise.is ∙ otherwise_is _))
