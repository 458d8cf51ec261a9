use Rattle.std.proofs.Common.{pos}
use Rattle.std.proofs.lemmas.Result.{IfOk-weaker}
use Rattle.value_core.specs.Datum as datum
use Rattle.value_core.specs.View.{datum_of}
use Rattle.code_steps.specs.Bodies.{config_of, effect_in}
use Rattle.code_steps.proofs.Calling.{gives_fail, gives_none, gives_on}
use Rattle.code_steps.proofs.calls.give.Goals as goal

pub returns-in_default : goal.returns-in_default
returns-in_default c = λ code. gives_none code (config_of c.args.config.now) c.pop.new.self (datum.int (pos 0)) (c.in_default.ensures {u = tt})

pub returns-in-Ok : goal.returns-in-Ok
returns-in-Ok c =
    IfOk-weaker c.leave.result _ _
    (λ e h code. gives_on code (config_of c.args.config.now) c.pop.new.self (datum_of c.in-Some.value) (effect_in e (config_of c.leave.new.config)) (c.in-Some.ensures {u = tt}) c.in-Ok.ensures h)
    c.leave.ensures

pub returns-in-Err : goal.returns-in-Err
returns-in-Err c =
    IfOk-weaker c.failed.result _ _
    (λ e h code. gives_fail code (config_of c.args.config.now) c.pop.new.self (datum_of c.in-Some.value) c.in-Err.stop e (config_of (record c.args.config.now { stack = c.pop.new.self })) (c.in-Some.ensures {u = tt}) c.in-Err.ensures h)
    c.failed.ensures
