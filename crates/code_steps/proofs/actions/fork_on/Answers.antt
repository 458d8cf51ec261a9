use Rattle.std.proofs.Common.{[], false, true, ℤ, pos, Option, Some, ap, sym, ◌∙◌}
use Rattle.std.proofs.lemmas.Result.{IfOk-weaker}
use Rattle.value_core.specs.Datum as datum
use Rattle.value_core.specs.Datum.{list_of}
use Rattle.value_core.specs.View.{datum_of}
use Rattle.value_core.specs.declared.action.Action.TheVariants as action
use Rattle.meaning_rules.specs.Operators.{integer_in}
use Rattle.code_steps.specs.declared.advance.Advance.TheVariants as advance
use Rattle.code_steps.specs.Moves.{effect_of}
use Rattle.code_steps.proofs.Acting.{asks, asks_not, forks_none, forks_on}
use Rattle.code_steps.proofs.Popping.{has_values, no_values}
use Rattle.code_steps.proofs.actions.fork_on.Goals as goal

pub returns-in_default : goal.returns-in_default
returns-in_default c = λ locals code home.
    let old = c.args.stack.now in
    forks_none code home c.args.count old old old locals (datum.int (pos 0)) c.args.process
    (c.in_default.ensures {u = tt})

pub returns-in_default-2 : goal.returns-in_default-2
returns-in_default-2 c = λ locals code home.
    let old = c.args.stack.now in
    let mid = c.pop.new.self in
    let st = c.pop_many.new.self in
    forks_on code home c.args.count old mid st locals (datum_of c.in-Some.member) c.args.process false [] (c.in-Some.ensures {u = tt})
    (no_values c.in_ok-args.field-0 c.args.count mid st (c.in_ok-args.ensures {u = tt}) c.in_default-2.is)

pub returns-in-Ok : goal.returns-in-Ok
returns-in-Ok c = λ locals code home.
    let old = c.args.stack.now in
    let mid = c.pop.new.self in
    let st = c.pop_many.new.self in
    let x = datum_of c.in-Some.member in
    let args = c.in-Some-2.args in
    forks_on code home c.args.count old mid st locals x c.args.process true (list_of args) (c.in-Some.ensures {u = tt}) (has_values c.in_ok-args.field-0 c.args.count mid st (c.in_ok-args.ensures {u = tt}) args c.in-Some-2.is)
    ∙ asks home old st locals args (λ xs. action.Fork c.args.process xs (Some (integer_in x))) c.in-Ok.ensures
    ∙ ap (λ (z : Option ℤ). effect_of home (advance.Asks (action.Fork c.args.process args z)) st locals) (sym c.named_by-place_on.ensures)

pub returns : goal.returns
returns c =
    let old = c.args.stack.now in
    let mid = c.pop.new.self in
    let st = c.pop_many.new.self in
    let x = datum_of c.in-Some.member in
    let args = c.in-Some-2.args in
    IfOk-weaker c.stopped.result _ _
    (λ a h locals code home.
    forks_on code home c.args.count old mid st locals x c.args.process true (list_of args) (c.in-Some.ensures {u = tt}) (has_values c.in_ok-args.field-0 c.args.count mid st (c.in_ok-args.ensures {u = tt}) args c.in-Some-2.is)
    ∙ asks_not home old st locals args (λ xs. action.Fork c.args.process xs (Some (integer_in x))) c.in-Err.stop a c.in-Err.ensures h)
    c.stopped.ensures
