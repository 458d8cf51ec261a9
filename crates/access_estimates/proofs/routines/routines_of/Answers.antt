use Rattle.std.proofs.Common.{List, map, subst, ap, ◌∙◌, arith}
use Rattle.std.proofs.lemmas.List.{take_all}
use Rattle.type_rules.specs.TopLevel.{TopName}
use Rattle.type_forms.specs.Seen.{top}
use Rattle.estimate_rules.specs.Routines.{routine_of}
use Rattle.access_estimates.specs.Resolved.{IsRoutine}
use Rattle.program_bodies.specs.Matching.{Both, Match}
use Rattle.program_bodies.proofs.Matched.{match_more}
use Rattle.access_estimates.proofs.routines.routines_of.Goals as goal

pub tops-preserved : goal.tops-preserved
tops-preserved c = λ us typed are.
    match_more (λ o t. Both (IsRoutine us) o (routine_of us t)) top c.tops-tops.result.now c.tops.item-index c.item-item.result c.tops.all.items _ c.in_ok-routine.routine
    c.tops-test.true c.item-item.is c.in_ok-push.ensures.items (c.tops.invariant us typed are) ((c.in_ok-routine.ensures {u = tt}) us typed are)

pub returns : goal.returns
returns c = λ us typed are.
    subst (λ (l : List TopName). Match (λ o t. Both (IsRoutine us) o (routine_of us t)) c.tops.all.items l)
    (ap (map top) (take_all c.tops.item-index c.tops-tops.result.now (omega (arith, c.tops-test.false))) ∙ c.tops-tops.ensures us typed.forms.names)
    (c.tops.invariant us typed are)
