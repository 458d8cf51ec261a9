use Rattle.std.proofs.Common.{◌≡◌, ap, sym, subst, ◌∙◌, List, ℕ}
use Rattle.std.specs.Prelude.{◌+◌, IfOk}
use Rattle.orca_tree.specs.declared.tree.Arm.{Arm as ArmTree}
use Rattle.orca_tree.specs.declared.tree.Statement.{Statement}
use Rattle.orca_syntax.specs.Shown.{arm, arms, stmt, stmts}
use Rattle.orca_syntax.proofs.ShownLaws.{for_is, if_is, otherwise_is, repeat_is, when_is, while_is}
use Rattle.accepted_law.specs.Limits.{loops_in, loops_in_all, loops_in_arm, loops_in_arms}
use Rattle.program_limits.proofs.loops.+statements.Goals as goal

pub loops_in-returns-in-If : goal.loops_in-returns-in-If
loops_in-returns-in-If t c =
    subst (λ (k : ℕ). IfOk c.loops_in_arms.result (λ n. n ≡ k))
    (ap (λ (l : List ArmTree). loops_in_arms (arms l)) c.deref.ensures.value ∙ sym (ap (λ (s : Statement). loops_in (stmt s)) c.in-If.is ∙ ap loops_in (if_is c.in-If.at c.in-If.arms)))
    c.loops_in_arms.ensures

pub loops_in-returns-in-While : goal.loops_in-returns-in-While
loops_in-returns-in-While t c =
    subst (λ (k : ℕ). IfOk c.loops_in_all.result (λ n. n ≡ k))
    (ap (λ (l : List Statement). loops_in_all (stmts l)) c.deref-in-While.ensures.value
    ∙ sym (ap (λ (s : Statement). loops_in (stmt s)) c.in-While.is ∙ ap loops_in (while_is c.in-While.at c.in-While.test c.in-While.body)))
    c.loops_in_all.ensures

pub loops_in-returns-in-For : goal.loops_in-returns-in-For
loops_in-returns-in-For t c =
    subst (λ (k : ℕ). IfOk c.one_and_inner.result (λ n. n ≡ k))
    (ap (λ (l : List Statement). 1 + loops_in_all (stmts l)) c.deref-in-For.ensures.value
    ∙ sym (ap (λ (s : Statement). loops_in (stmt s)) c.in-For.is ∙ ap loops_in (for_is c.in-For.at c.in-For.name c.in-For.range c.in-For.body)))
    c.one_and_inner.ensures

pub loops_in-returns-in-Repeat : goal.loops_in-returns-in-Repeat
loops_in-returns-in-Repeat t c =
    subst (λ (k : ℕ). IfOk c.loops_in_all-in-Repeat.result (λ n. n ≡ k))
    (ap (λ (l : List Statement). loops_in_all (stmts l)) c.deref-in-Repeat.ensures.value
    ∙ sym (ap (λ (s : Statement). loops_in (stmt s)) c.in-Repeat.is ∙ ap loops_in (repeat_is c.in-Repeat.at c.in-Repeat.body c.in-Repeat.test)))
    c.loops_in_all-in-Repeat.ensures

pub loops_in_arm-returns-in-When : goal.loops_in_arm-returns-in-When
loops_in_arm-returns-in-When t c =
    subst (λ (k : ℕ). IfOk c.loops_in_all.result (λ n. n ≡ k))
    (ap (λ (l : List Statement). loops_in_all (stmts l)) c.deref.ensures.value
    ∙ sym (ap (λ (a : ArmTree). loops_in_arm (arm a)) c.in-When.is ∙ ap loops_in_arm (when_is c.in-When.test c.in-When.body)))
    c.loops_in_all.ensures

pub loops_in_arm-returns-in-Otherwise : goal.loops_in_arm-returns-in-Otherwise
loops_in_arm-returns-in-Otherwise t c =
    subst (λ (k : ℕ). IfOk c.loops_in_all-in-Otherwise.result (λ n. n ≡ k))
    (ap (λ (l : List Statement). loops_in_all (stmts l)) c.deref-in-Otherwise.ensures.value
    ∙ sym (ap (λ (a : ArmTree). loops_in_arm (arm a)) c.in-Otherwise.is ∙ ap loops_in_arm (otherwise_is c.in-Otherwise.body)))
    c.loops_in_all-in-Otherwise.ensures
