use Rattle.std.proofs.Common.{List, map, subst, ap, arith}
use Rattle.std.proofs.lemmas.List.{take_all}
use Rattle.type_rules.specs.TopLevel.{TopName}
use Rattle.type_forms.specs.Seen.{top}
use Rattle.program_bodies.specs.Blocks.{IsBlockCode, process_of}
use Rattle.program_bodies.specs.Matching.{Both, Match}
use Rattle.program_bodies.proofs.Matched.{match_more}
use Rattle.program_bodies.proofs.blocks.processes_of.Goals as goal

pub processes-preserved : goal.processes-preserved
processes-preserved c = λ us t.
    match_more (λ p u. Both IsBlockCode p (process_of us u)) top c.args.processes.now c.processes.item-index c.item-item.result c.processes.all.items _ c.in_ok-own.own
    c.processes-test.true c.item-item.is c.in_ok-push.ensures.items (c.processes.invariant us t) ((c.in_ok-own.ensures {u = tt}) us t)

pub returns : goal.returns
returns c = λ us t.
    subst (λ (l : List TopName). Match (λ p u. Both IsBlockCode p (process_of us u)) c.processes.all.items l)
    (ap (map top) (take_all c.processes.item-index c.args.processes.now (omega (arith, c.processes-test.false))))
    (c.processes.invariant us t)
