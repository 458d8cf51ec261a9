use Rattle.std.proofs.Common.{[], pos, ◌∙◌}
use Rattle.std.proofs.lemmas.Result.{IfOk-weaker}
use Rattle.value_core.specs.Datum as datum
use Rattle.value_core.specs.View.{datum_of}
use Rattle.code_steps.proofs.Setting.{assigns_slot}
use Rattle.code_steps.proofs.Taken.{assigns_none}
use Rattle.code_steps.proofs.variables.assign_whole.Goals as goal

pub returns-in_default : goal.returns-in_default
returns-in_default c = λ code home.
    let old = c.args.stack.now in
    assigns_none code home c.args.slot [] old old old c.args.run.now.frame [] (datum.int (pos 0)) (c.in_default.ensures {u = tt})

pub returns : goal.returns
returns c =
    IfOk-weaker c.put_whole.result _ _
    (λ a h code home. assigns_slot code home c.args.slot c.args.stack.now c.pop.new.self c.args.run.now.frame (datum_of c.in-Some.value) (c.in-Some.ensures {u = tt})
    ∙ h home c.args.stack.now c.pop.new.self)
    c.put_whole.ensures
