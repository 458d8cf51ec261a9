use Rattle.std.proofs.lemmas.Result.{IfOk-weaker}
use Rattle.value_core.specs.Datum as datum
use Rattle.meaning_rules.specs.Operators.{fitting}
use Rattle.code_steps.proofs.Arriving.{made}
use Rattle.code_steps.proofs.constants.push_text.Goals as goal

pub returns : goal.returns
returns c =
    let old = c.args.stack.now in
    IfOk-weaker c.push_made.result _ _
    (λ a p locals code home. made home old old c.push_made.new.stack locals a c.text_value.result (fitting (datum.text c.args.text.now)) c.text_value.ensures p)
    c.push_made.ensures
