use Rattle.std.proofs.Common.{List, map, subst, ap, arith}
use Rattle.std.proofs.lemmas.List.{take_all}
use Rattle.orca_syntax.specs.Syntax.{Operation}
use Rattle.orca_syntax.specs.Shown.{operation}
use Rattle.program_bodies.specs.Matching.{Match}
use Rattle.program_bodies.specs.Objects.{IsOperationCode, object_type_seen}
use Rattle.program_bodies.proofs.Matched.{match_more}
use Rattle.program_bodies.proofs.objects.operation_codes.Goals as goal

pub operations-preserved : goal.operations-preserved
operations-preserved c = λ us t.
    match_more (IsOperationCode us (object_type_seen c.args.of)) operation c.args.of.operations.now c.operations.operation-index c.operation-item.result
    c.operations.all.items _ c.in_ok-own.own c.operations-test.true c.operation-item.is c.in_ok-push.ensures.items (c.operations.invariant us t)
    ((c.in_ok-own.ensures {u = tt}) us t)

pub returns : goal.returns
returns c = λ us t.
    subst (λ (l : List Operation). Match (IsOperationCode us (object_type_seen c.args.of)) c.operations.all.items l)
    (ap (map operation) (take_all c.operations.operation-index c.args.of.operations.now (omega (arith, c.operations-test.false))))
    (c.operations.invariant us t)
