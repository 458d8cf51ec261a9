use Rattle.std.proofs.Common.{◌<◌, None, Some, arith, length, map, refl, ◌∙◌}
use Rattle.std.proofs.lemmas.Result.{IfOk-weaker}
use Rattle.emitted_code.specs.Views.{body_seen, program_seen}
use Rattle.frame_variables.specs.Gives.{passed_of}
use Rattle.code_steps.specs.Bodies.{config_of}
use Rattle.code_steps.proofs.Calling.{entered_to, too_deep}
use Rattle.code_steps.proofs.calls.enter.Goals as goal

pub returns-then-len-ge-MOST_WAITING : goal.returns-then-len-ge-MOST_WAITING
returns-then-len-ge-MOST_WAITING c =
    let config = c.args.config.now in
    too_deep (program_seen c.args.code.now) c.args.function (map passed_of c.args.args.items) (config_of config) config.stack config.callers.items refl
    (omega (arith, c.if-len-ge-MOST_WAITING.true, c.len.ensures, config.callers.ok.0))

pub returns-in-Some : goal.returns-in-Some
returns-in-Some c =
    let config = c.args.config.now in
    let few : length config.callers.items < 64 = omega (arith, c.if-len-ge-MOST_WAITING.false, c.len.ensures, config.callers.ok.0) in
    IfOk-weaker c.begin.result _ _
    (λ e h. entered_to (program_seen c.args.code.now) c.args.function (map passed_of c.args.args.items) (config_of config) config.stack config.callers.items refl (Some (body_seen c.in-Some.part.now)) few (c.in-Some.ensures {u = tt}) ∙ h)
    c.begin.ensures

pub returns-in-None : goal.returns-in-None
returns-in-None c =
    let config = c.args.config.now in
    let few : length config.callers.items < 64 = omega (arith, c.if-len-ge-MOST_WAITING.false, c.len.ensures, config.callers.ok.0) in
    entered_to (program_seen c.args.code.now) c.args.function (map passed_of c.args.args.items) (config_of config) config.stack config.callers.items refl None few (c.in-None.ensures {u = tt})
