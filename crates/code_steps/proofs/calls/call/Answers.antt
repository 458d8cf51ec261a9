use Rattle.std.proofs.Common.{◌≡◌, List, [], map, subst}
use Rattle.std.proofs.lemmas.Result.{IfOk-weaker}
use Rattle.value_core.specs.Datum.{data_of}
use Rattle.meaning_rules.specs.Calls.{values_in}
use Rattle.meaning_rules.specs.Operators.{fitting_all}
use Rattle.meaning_rules.specs.States.{State, Goes, gives}
use Rattle.frame_variables.specs.declared.steps.Passed.{Passed}
use Rattle.frame_variables.specs.Gives.{Fails, passed_of}
use Rattle.emitted_code.specs.Views.{program_seen, shape_of}
use Rattle.code_steps.specs.Bodies.{config_of, effect_in}
use Rattle.code_steps.proofs.Calling.{calls_fail, calls_not, calls_on}
use Rattle.code_steps.proofs.Graphs.{has_args, no_args}
use Rattle.code_steps.proofs.calls.call.Goals as goal

pub returns-in_default : goal.returns-in_default
returns-in_default c =
    let shapes = map shape_of c.args.shapes.now in
    let old = c.args.config.now in
    let st = c.take_args.new.stack in
    calls_not (program_seen c.args.code.now) c.args.function shapes (config_of old) st [] (no_args c.in_ok-args.field-0 shapes old.stack st (c.in_ok-args.ensures {u = tt}) c.in_default.is)

pub returns-in-Ok : goal.returns-in-Ok
returns-in-Ok c =
    let shapes = map shape_of c.args.shapes.now in
    let old = c.args.config.now in
    let st = c.take_args.new.stack in
    let args = c.in-Some.args in
    IfOk-weaker c.enter.result _ _
    (λ e h. calls_on (program_seen c.args.code.now) c.args.function shapes (config_of old) st (map passed_of args.items) (effect_in e (config_of c.enter.new.config))
    (has_args c.in_ok-args.field-0 shapes old.stack st (c.in_ok-args.ensures {u = tt}) args c.in-Some.is)
    (subst (λ (ps : List Passed). (s : State) → gives (fitting_all (data_of (values_in (map passed_of ps)))) s ≡ Goes (data_of (values_in (map passed_of ps))) s) c.deref.ensures.value c.in-Ok.ensures) h)
    c.enter.ensures

pub returns-in-Err : goal.returns-in-Err
returns-in-Err c =
    let shapes = map shape_of c.args.shapes.now in
    let old = c.args.config.now in
    let st = c.take_args.new.stack in
    let args = c.in-Some.args in
    IfOk-weaker c.failed.result _ _
    (λ e h. calls_fail (program_seen c.args.code.now) c.args.function shapes (config_of old) st (map passed_of args.items) c.in-Err.stop e (config_of (record old { stack = st }))
    (has_args c.in_ok-args.field-0 shapes old.stack st (c.in_ok-args.ensures {u = tt}) args c.in-Some.is)
    (subst (λ (ps : List Passed). (s : State) → Fails c.in-Err.stop (gives (fitting_all (data_of (values_in (map passed_of ps)))) s)) c.deref.ensures.value c.in-Err.ensures) h)
    c.failed.ensures
