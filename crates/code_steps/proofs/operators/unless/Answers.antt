use Rattle.std.proofs.Common.{pos, sym, ◌∙◌}
use Rattle.value_core.specs.Datum as datum
use Rattle.value_core.specs.View.{datum_of}
use Rattle.code_steps.proofs.Choosing.{goes_on_true, goes_to, unless_none}
use Rattle.code_steps.proofs.operators.unless.Goals as goal

pub returns-in_default : goal.returns-in_default
returns-in_default c = λ locals code home.
    let old = c.args.stack.now in
    unless_none code home old old old locals (datum.int (pos 0)) c.args.address
    (c.in_default.ensures {u = tt})

pub returns-then-truth_in : goal.returns-then-truth_in
returns-then-truth_in c = λ locals code home.
    let st = c.pop.new.self in
    goes_on_true code home c.args.stack.now st st locals (datum_of c.in-Some.truth) c.args.address (c.in-Some.ensures {u = tt}) (sym c.truth_in.ensures ∙ c.if-truth_in.true)

pub returns : goal.returns
returns c = λ locals code home.
    let st = c.pop.new.self in
    goes_to code home c.args.stack.now st st locals (datum_of c.in-Some.truth) c.args.address (c.in-Some.ensures {u = tt}) (sym c.truth_in.ensures ∙ c.if-truth_in.false)
