use Rattle.std.proofs.Common.{[], false, true, pos, None, ◌∙◌}
use Rattle.std.proofs.lemmas.Result.{IfOk-weaker}
use Rattle.value_core.specs.Datum as datum
use Rattle.value_core.specs.Datum.{list_of}
use Rattle.value_core.specs.declared.action.Action.TheVariants as action
use Rattle.code_steps.proofs.Acting.{asks, asks_not, forks}
use Rattle.code_steps.proofs.Popping.{has_values, no_values}
use Rattle.code_steps.proofs.actions.fork.Goals as goal

pub returns-in_default : goal.returns-in_default
returns-in_default c = λ locals code home.
    let old = c.args.stack.now in
    let st = c.pop_many.new.self in
    forks code home c.args.count old old st locals (datum.int (pos 0)) c.args.process false []
    (no_values c.in_ok-args.field-0 c.args.count old st (c.in_ok-args.ensures {u = tt}) c.in_default.is)

pub returns-in-Ok : goal.returns-in-Ok
returns-in-Ok c = λ locals code home.
    let old = c.args.stack.now in
    let st = c.pop_many.new.self in
    let args = c.in-Some.args in
    forks code home c.args.count old old st locals (datum.int (pos 0)) c.args.process true (list_of args) (has_values c.in_ok-args.field-0 c.args.count old st (c.in_ok-args.ensures {u = tt}) args c.in-Some.is)
    ∙ asks home old st locals args (λ xs. action.Fork c.args.process xs None) c.in-Ok.ensures

pub returns-in-Err : goal.returns-in-Err
returns-in-Err c =
    let old = c.args.stack.now in
    let st = c.pop_many.new.self in
    let args = c.in-Some.args in
    IfOk-weaker c.stopped.result _ _
    (λ a h locals code home.
    forks code home c.args.count old old st locals (datum.int (pos 0)) c.args.process true (list_of args) (has_values c.in_ok-args.field-0 c.args.count old st (c.in_ok-args.ensures {u = tt}) args c.in-Some.is)
    ∙ asks_not home old st locals args (λ xs. action.Fork c.args.process xs None) c.in-Err.stop a c.in-Err.ensures h)
    c.stopped.ensures
