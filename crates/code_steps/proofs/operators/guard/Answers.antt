use Rattle.std.proofs.Common.{pos}
use Rattle.value_core.specs.Datum as datum
use Rattle.value_core.specs.View.{datum_of}
use Rattle.code_steps.proofs.Choosing.{tests, tests_none}
use Rattle.code_steps.proofs.operators.guard.Goals as goal

pub returns-in_default : goal.returns-in_default
returns-in_default c = λ locals code home.
    let old = c.args.stack.now in
    tests_none code home old old old locals (datum.int (pos 0)) c.args.otherwise
    (c.in_default.ensures {u = tt})

pub returns : goal.returns
returns c = λ locals code home.
    let st = c.pop.new.self in
    tests code home c.args.stack.now st st locals (datum_of c.in-Some.test) c.args.otherwise c.truth_in-truth.result (c.in-Some.ensures {u = tt}) c.truth_in-truth.ensures
