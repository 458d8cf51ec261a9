use Rattle.std.proofs.Common.{pos}
use Rattle.value_core.specs.Datum as datum
use Rattle.value_core.specs.View.{datum_of}
use Rattle.code_steps.proofs.Choosing.{drops, drops_none}
use Rattle.code_steps.proofs.operators.pop.Goals as goal

pub returns-in-Some : goal.returns-in-Some
returns-in-Some c = λ locals code home.
    let st = c.pop.new.self in
    drops code home c.args.stack.now st st locals (datum_of c.in-Some._value) (c.in-Some.ensures {u = tt})

pub returns-in-None : goal.returns-in-None
returns-in-None c = λ locals code home.
    let old = c.args.stack.now in
    drops_none code home old old old locals (datum.int (pos 0)) (c.in-None.ensures {u = tt})
