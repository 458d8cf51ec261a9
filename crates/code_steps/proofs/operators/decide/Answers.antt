use Rattle.std.proofs.Common.{pos, sym, ◌∙◌}
use Rattle.value_core.specs.Datum as datum
use Rattle.value_core.specs.View.{datum_of}
use Rattle.code_steps.proofs.Choosing.{decides_none, goes, stays}
use Rattle.code_steps.proofs.operators.decide.Goals as goal

pub returns-in_default : goal.returns-in_default
returns-in_default c = λ locals home.
    let old = c.args.stack.now in
    decides_none home c.args.operator c.args.address old old old locals (datum.int (pos 0))
    (c.in_default.ensures {u = tt})

pub returns-then-decides : goal.returns-then-decides
returns-then-decides c = λ locals home.
    stays home c.args.operator c.args.address c.args.stack.now c.pop.new.self c.push.new.self locals (datum_of c.in-Some.left)
    (c.in-Some.ensures {u = tt}) (c.in_ok-push.ensures {u = tt}) (sym c.decides.ensures ∙ c.if-decides.true)

pub returns : goal.returns
returns c = λ locals home.
    let mid = c.pop.new.self in
    goes home c.args.operator c.args.address c.args.stack.now mid mid locals (datum_of c.in-Some.left)
    (c.in-Some.ensures {u = tt}) (sym c.decides.ensures ∙ c.if-decides.false)
