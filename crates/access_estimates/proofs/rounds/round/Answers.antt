use Rattle.std.proofs.Common.{List, Option, map, subst, arith}
use Rattle.std.proofs.lemmas.List.{take_all}
use Rattle.access_estimates.specs.declared.routines.Routine.{Routine}
use Rattle.program_bodies.specs.Matching.{Match}
use Rattle.access_estimates.specs.Summaries.{IsNext, by_table}
use Rattle.access_estimates.proofs.Matched.{match_map, match_next}
use Rattle.access_estimates.proofs.Summed.{round_is}
use Rattle.access_estimates.proofs.rounds.round.Goals as goal

pub routines-preserved : goal.routines-preserved
routines-preserved c =
    match_next (λ v o. IsNext (by_table (map (λ v. v.items) c.args.table.now)) v.items o) c.args.routines.now c.routines.routine-index c.routine-item.result
    c.routines.all.items _ c.in_ok-summary.summary c.routines-test.true c.routine-item.is c.in_ok-push.ensures.items c.routines.invariant (c.in_ok-summary.ensures {u = tt})

pub returns : goal.returns
returns c = λ us are.
    let summaries = by_table (map (λ v. v.items) c.args.table.now) in
    round_is us summaries (map (λ v. v.items) c.routines.all.items) c.args.routines.now
    (match_map (IsNext summaries) (λ v. v.items) c.routines.all.items c.args.routines.now
    (subst (λ (l : List (Option Routine)). Match (λ v o. IsNext summaries v.items o) c.routines.all.items l)
    (take_all c.routines.routine-index c.args.routines.now (omega (arith, c.routines-test.false))) c.routines.invariant))
    are
