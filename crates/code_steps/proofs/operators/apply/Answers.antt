use Rattle.std.proofs.Common.{pos, ◌∙◌}
use Rattle.std.proofs.lemmas.Result.{IfOk-weaker}
use Rattle.value_core.specs.Datum as datum
use Rattle.value_core.specs.View.{datum_of}
use Rattle.meaning_rules.specs.Operators.{applied}
use Rattle.code_steps.proofs.Choosing.{applies, applies_none, applies_one}
use Rattle.code_steps.proofs.Arriving.{made}
use Rattle.code_steps.proofs.operators.apply.Goals as goal

pub returns-in_default : goal.returns-in_default
returns-in_default c = λ locals code home.
    let old = c.args.stack.now in
    applies_none code home old old old locals (datum.int (pos 0)) c.args.operator
    (c.in_default.ensures {u = tt})

pub returns-in_default-pop : goal.returns-in_default-pop
returns-in_default-pop c = λ locals code home.
    let old = c.args.stack.now in
    let mid = c.pop.new.self in
    applies_one code home old mid mid locals (datum_of c.in-Some.right) c.args.operator (c.in-Some.ensures {u = tt})
    (c.in_default-pop.ensures {u = tt})

pub returns : goal.returns
returns c =
    let old = c.args.stack.now in
    let mid = c.pop.new.self in
    let st = c.pop-2.new.self in
    let x = datum_of c.in-Some-pop.left in
    let y = datum_of c.in-Some.right in
    IfOk-weaker c.push_made.result _ _
    (λ a h locals code home. applies code home old mid st locals x c.args.operator y (c.in-Some.ensures {u = tt}) (c.in-Some-pop.ensures {u = tt})
    ∙ made home old st c.push_made.new.stack locals a c.outcome.result (applied c.args.operator x y) c.outcome.ensures h)
    c.push_made.ensures
