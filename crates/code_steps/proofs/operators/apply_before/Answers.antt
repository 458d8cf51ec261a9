use Rattle.std.proofs.Common.{pos, ◌∙◌}
use Rattle.std.proofs.lemmas.Result.{IfOk-weaker}
use Rattle.value_core.specs.Datum as datum
use Rattle.value_core.specs.View.{datum_of}
use Rattle.code_rules.specs.Machine.{prefixed}
use Rattle.emitted_code.specs.Views.{prefix_of}
use Rattle.code_steps.proofs.Choosing.{prefixes, prefixes_none}
use Rattle.code_steps.proofs.Arriving.{made}
use Rattle.code_steps.proofs.operators.apply_before.Goals as goal

pub returns-in_default : goal.returns-in_default
returns-in_default c = λ locals code home.
    let old = c.args.stack.now in
    prefixes_none code home old old old locals (datum.int (pos 0)) (prefix_of c.args.prefix)
    (c.in_default.ensures {u = tt})

pub returns : goal.returns
returns c =
    let old = c.args.stack.now in
    let st = c.pop.new.self in
    let x = datum_of c.in-Some.operand in
    let p = prefix_of c.args.prefix in
    IfOk-weaker c.push_made.result _ _
    (λ a h locals code home. prefixes code home old old st locals x p (c.in-Some.ensures {u = tt})
    ∙ made home old st c.push_made.new.stack locals a c.prefixed.result (prefixed p x) c.prefixed.ensures h)
    c.push_made.ensures
