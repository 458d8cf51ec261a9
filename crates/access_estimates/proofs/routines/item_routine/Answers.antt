use Rattle.std.proofs.Common.{Some, refl, subst, sym, ap}
use Rattle.type_rules.specs.TopLevel as tops
use Rattle.type_forms.specs.Seen.{what}
use Rattle.estimate_rules.specs.Routines.{routine_in}
use Rattle.access_estimates.specs.Resolved.{IsRoutine}
use Rattle.program_bodies.specs.Matching.{Both}
use Rattle.access_estimates.proofs.routines.item_routine.Goals as goal

pub returns-in_ok-routine-in-Function : goal.returns-in_ok-routine-in-Function
returns-in_ok-routine-in-Function c = λ us typed are.
    subst (λ (k : tops.What). Both (IsRoutine us) (Some c.in_ok-routine-in-Function.routine) (routine_in us c.args.item.now.by.now k)) (sym (ap what c.in-Function.is))
    ((c.in_ok-routine-in-Function.ensures {u = tt}) us typed are _ refl refl refl)

pub returns-in_ok-routine-in-Process : goal.returns-in_ok-routine-in-Process
returns-in_ok-routine-in-Process c = λ us typed are.
    subst (λ (k : tops.What). Both (IsRoutine us) (Some c.in_ok-routine-in-Process.routine) (routine_in us c.args.item.now.by.now k)) (sym (ap what c.in-Process.is))
    ((c.in_ok-routine-in-Process.ensures {u = tt}) us typed are _ refl refl refl)
