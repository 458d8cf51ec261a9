use Rattle.std.proofs.Common.{◌≡◌, ℕ, suc, ◌+◌, List, drop, sym, ap, ◌∙◌}
use Rattle.std.specs.Prelude.{max}
use Rattle.std.proofs.Math.ListN.{drop_of_length-le}
use Rattle.std.proofs.Math.Nat.{max-zero}
use Rattle.orca_tree.specs.declared.tree.Arm.{Arm as ArmTree}
use Rattle.orca_tree.specs.declared.tree.Statement.{Statement}
use Rattle.orca_syntax.specs.Shown.{arm, arms, stmt, stmts}
use Rattle.orca_syntax.proofs.ShownLaws.{for_is, if_is, otherwise_is, repeat_is, when_is, while_is}
use Rattle.type_forms.proofs.Loops.{rest_is}
use Rattle.code_rules.specs.Phrases.{depth, depth_all, depth_arm, depth_arms}
use Rattle.code_units.proofs.Rows.{max_grouped, on_if}
use Rattle.code_units.proofs.depths.+depths.Goals as goal

pub depth_of-returns-in-If : goal.depth_of-returns-in-If
depth_of-returns-in-If t c =
    let a = c.in-If in
    on_if c.depth_of_arms.result (λ (n : ℕ). n ≡ depth_arms (arms c.deref.result.now)) (λ (n : ℕ). n ≡ depth (stmt c.args.statement.now))
    (λ n e. e ∙ ap (λ (as_ : List ArmTree). depth_arms (arms as_)) c.deref.ensures.value ∙ sym (ap depth (ap stmt a.is ∙ if_is a.at a.arms)))
    c.depth_of_arms.ensures

pub depth_of-returns-in-While : goal.depth_of-returns-in-While
depth_of-returns-in-While t c =
    let a = c.in-While in
    on_if c.depth_of_all.result (λ (n : ℕ). n ≡ depth_all (stmts c.deref-in-While.result.now)) (λ (n : ℕ). n ≡ depth (stmt c.args.statement.now))
    (λ n e. e ∙ ap (λ (ss : List Statement). depth_all (stmts ss)) c.deref-in-While.ensures.value ∙ sym (ap depth (ap stmt a.is ∙ while_is a.at a.test a.body)))
    c.depth_of_all.ensures

pub depth_of-returns-in-Repeat : goal.depth_of-returns-in-Repeat
depth_of-returns-in-Repeat t c =
    let a = c.in-Repeat in
    on_if c.depth_of_all-in-Repeat.result (λ (n : ℕ). n ≡ depth_all (stmts c.deref-in-Repeat.result.now)) (λ (n : ℕ). n ≡ depth (stmt c.args.statement.now))
    (λ n e. e ∙ ap (λ (ss : List Statement). depth_all (stmts ss)) c.deref-in-Repeat.ensures.value ∙ sym (ap depth (ap stmt a.is ∙ repeat_is a.at a.body a.test)))
    c.depth_of_all-in-Repeat.ensures

pub depth_of-returns-in-For : goal.depth_of-returns-in-For
depth_of-returns-in-For t c =
    let a = c.in-For in
    on_if c.depth_of_loop.result (λ (n : ℕ). n ≡ suc (depth_all (stmts c.deref-in-For.result.now))) (λ (n : ℕ). n ≡ depth (stmt c.args.statement.now))
    (λ n e. e ∙ ap (λ (ss : List Statement). suc (depth_all (stmts ss))) c.deref-in-For.ensures.value ∙ sym (ap depth (ap stmt a.is ∙ for_is a.at a.name a.range a.body)))
    c.depth_of_loop.ensures

pub depth_of_loop-returns : goal.depth_of_loop-returns
depth_of_loop-returns t c =
    on_if c.one_more.result (λ (n : ℕ). n ≡ suc c.in_ok-inside.inside) (λ (n : ℕ). n ≡ suc (depth_all (stmts c.args.body.now)))
    (λ n e. e ∙ ap (λ (k : ℕ). suc k) (c.in_ok-inside.ensures {u = tt})) c.one_more.ensures

pub depth_of_all-statements-preserved : goal.depth_of_all-statements-preserved
depth_of_all-statements-preserved t c =
    let i = c.statements.one-index in
    let x = c.one-item.result in
    let rest = depth_all (stmts (drop (i + 1) c.args.statements.now)) in
    ap (λ (k : ℕ). max k rest) (c.larger-most.ensures ∙ ap (λ (k : ℕ). max c.statements.most k) (c.in_ok-own.ensures {u = tt}))
    ∙ max_grouped c.statements.most (depth (stmt x)) rest
    ∙ sym (ap (λ (ss : List Statement). max c.statements.most (depth_all (stmts ss))) (rest_is c.args.statements.now i x c.statements-test.true c.one-item.is))
    ∙ c.statements.invariant

pub depth_of_all-returns : goal.depth_of_all-returns
depth_of_all-returns t c =
    sym (max-zero c.statements.most)
    ∙ sym (ap (λ (ss : List Statement). max c.statements.most (depth_all (stmts ss))) (drop_of_length-le c.args.statements.now c.statements-test.false))
    ∙ c.statements.invariant

pub depth_of_arm-returns-in-When : goal.depth_of_arm-returns-in-When
depth_of_arm-returns-in-When t c =
    let a = c.in-When in
    on_if c.depth_of_all.result (λ (n : ℕ). n ≡ depth_all (stmts c.deref.result.now)) (λ (n : ℕ). n ≡ depth_arm (arm c.args.arm.now))
    (λ n e. e ∙ ap (λ (ss : List Statement). depth_all (stmts ss)) c.deref.ensures.value ∙ sym (ap depth_arm (ap arm a.is ∙ when_is a.test a.body)))
    c.depth_of_all.ensures

pub depth_of_arm-returns-in-Otherwise : goal.depth_of_arm-returns-in-Otherwise
depth_of_arm-returns-in-Otherwise t c =
    let a = c.in-Otherwise in
    on_if c.depth_of_all-in-Otherwise.result (λ (n : ℕ). n ≡ depth_all (stmts c.deref-in-Otherwise.result.now)) (λ (n : ℕ). n ≡ depth_arm (arm c.args.arm.now))
    (λ n e. e ∙ ap (λ (ss : List Statement). depth_all (stmts ss)) c.deref-in-Otherwise.ensures.value ∙ sym (ap depth_arm (ap arm a.is ∙ otherwise_is a.body)))
    c.depth_of_all-in-Otherwise.ensures

pub depth_of_arms-arms-preserved : goal.depth_of_arms-arms-preserved
depth_of_arms-arms-preserved t c =
    let i = c.arms.one-index in
    let x = c.one-item.result in
    let rest = depth_arms (arms (drop (i + 1) c.args.arms.now)) in
    ap (λ (k : ℕ). max k rest) (c.larger-most.ensures ∙ ap (λ (k : ℕ). max c.arms.most k) (c.in_ok-own.ensures {u = tt}))
    ∙ max_grouped c.arms.most (depth_arm (arm x)) rest
    ∙ sym (ap (λ (ss : List ArmTree). max c.arms.most (depth_arms (arms ss))) (rest_is c.args.arms.now i x c.arms-test.true c.one-item.is))
    ∙ c.arms.invariant

pub depth_of_arms-returns : goal.depth_of_arms-returns
depth_of_arms-returns t c =
    sym (max-zero c.arms.most)
    ∙ sym (ap (λ (ss : List ArmTree). max c.arms.most (depth_arms (arms ss))) (drop_of_length-le c.args.arms.now c.arms-test.false))
    ∙ c.arms.invariant
