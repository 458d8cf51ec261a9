use Rattle.std.proofs.Common.{ap, ◌∙◌}
use Rattle.std.proofs.lemmas.Result.{IfOk-weaker}
use Rattle.code_rules.specs.Machine as machine
use Rattle.emitted_code.specs.Views.{instr_of, program_seen}
use Rattle.code_steps.specs.Bodies.{config_of}
use Rattle.code_steps.proofs.stepping.step.Goals as goal

pub returns-in-Some : goal.returns-in-Some
returns-in-Some c = λ small.
    let code = program_seen c.args.code.now in
    let old = c.args.config.now in
    let there = c.in-Some.ensures.there in
    IfOk-weaker c.act.result _ _
    (λ e h. ap (λ o. machine.act code o (config_of old)) there ∙ h)
    (c.act.ensures (small (instr_of c.in-Some.instr.now) there))

pub returns-in-None : goal.returns-in-None
returns-in-None c = λ small. ap (λ o. machine.act (program_seen c.args.code.now) o (config_of c.args.config.now)) c.in-None.ensures.there
