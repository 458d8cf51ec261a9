use Rattle.std.proofs.Common.{map, ap, ◌∙◌, arith}
use Rattle.std.proofs.lemmas.List.{take_all}
use Rattle.code_rules.specs.Bodies.{operation_code}
use Rattle.program_bodies.specs.Objects.{IsOperationCode}
use Rattle.emitted_code.specs.Views.{operation_seen}
use Rattle.code_units.proofs.Rows.{made_there, match_long, match_there}
use Rattle.code_units.proofs.objects.compile_operations.Goals as goal

pub operations-preserved : goal.operations-preserved
operations-preserved c = λ us t os code all.
    let i = c.operations.one-index in
    let r = match_there (IsOperationCode us t) c.args.operations.now os i c.one-item.result all c.operations-test.true c.one-item.is in
    made_there operation_seen (operation_code us t) os i r.0 c.operations.all.items _ c.in_ok-own.own r.1.1 c.in_ok-push.ensures.items
    (c.operations.invariant us t os code all) ((c.in_ok-own.ensures {u = tt}) us t r.0 code r.1.0)

pub returns : goal.returns
returns c = λ us t os code all.
    let long = match_long (IsOperationCode us t) c.args.operations.now os all in
    c.operations.invariant us t os code all
    ∙ ap (map (operation_code us t)) (take_all c.operations.one-index os (omega (arith, long, c.operations-test.false)))
