use Rattle.std.proofs.Common.{[], false, true, pos, ap, sym, ◌∙◌}
use Rattle.std.proofs.lemmas.Result.{IfOk-weaker}
use Rattle.orca_base.specs.declared.ids.ObjectId.{ObjectId}
use Rattle.value_core.specs.Datum as datum
use Rattle.value_core.specs.Datum.{list_of}
use Rattle.value_core.specs.declared.action.Action.TheVariants as action
use Rattle.code_rules.specs.Machine.{object_at}
use Rattle.code_steps.specs.declared.advance.Advance.TheVariants as advance
use Rattle.code_steps.specs.Moves.{effect_of}
use Rattle.code_steps.proofs.Acting.{asks, asks_not, invokes}
use Rattle.code_steps.proofs.Popping.{has_values, no_values}
use Rattle.code_steps.proofs.actions.invoke.Goals as goal

pub returns-in_default : goal.returns-in_default
returns-in_default c = λ code home.
    let old = c.args.stack.now in
    let st = c.pop_many.new.self in
    let locals = c.args.run.now.frame in
    invokes code home c.args.count old old st locals (datum.int (pos 0)) c.args.kind c.args.op c.args.slot false []
    (no_values c.in_ok-args.field-0 c.args.count old st (c.in_ok-args.ensures {u = tt}) c.in_default.is)

pub returns-in-Ok : goal.returns-in-Ok
returns-in-Ok c = λ code home.
    let old = c.args.stack.now in
    let st = c.pop_many.new.self in
    let locals = c.args.run.now.frame in
    let args = c.in-Some.args in
    invokes code home c.args.count old old st locals (datum.int (pos 0)) c.args.kind c.args.op c.args.slot true (list_of args) (has_values c.in_ok-args.field-0 c.args.count old st (c.in_ok-args.ensures {u = tt}) args c.in-Some.is)
    ∙ asks home old st locals args (λ xs. action.Call c.args.kind c.args.op (object_at c.args.kind.0 c.args.slot locals) xs) c.in-Ok.ensures
    ∙ ap (λ (o : ObjectId). effect_of home (advance.Asks (action.Call c.args.kind c.args.op o args)) st locals) (sym c.object_in-object.ensures)

pub returns-in-Err : goal.returns-in-Err
returns-in-Err c =
    let old = c.args.stack.now in
    let st = c.pop_many.new.self in
    let locals = c.args.run.now.frame in
    let args = c.in-Some.args in
    IfOk-weaker c.stopped.result _ _
    (λ a h code home.
    invokes code home c.args.count old old st locals (datum.int (pos 0)) c.args.kind c.args.op c.args.slot true (list_of args) (has_values c.in_ok-args.field-0 c.args.count old st (c.in_ok-args.ensures {u = tt}) args c.in-Some.is)
    ∙ asks_not home old st locals args (λ xs. action.Call c.args.kind c.args.op (object_at c.args.kind.0 c.args.slot locals) xs) c.in-Err.stop a c.in-Err.ensures h)
    c.stopped.ensures
