use Rattle.std.proofs.Common.{ap, arith, ◌∙◌}
use Rattle.std.specs.Prelude.{option_map}
use Rattle.std.proofs.lemmas.Result.{IfOk-weaker}
use Rattle.value_core.specs.View.{datum_of}
use Rattle.code_rules.specs.Machine.{leave}
use Rattle.code_steps.specs.Bodies.{callers_of, config_of}
use Rattle.code_steps.proofs.Entering.{one_waits, none_wait}
use Rattle.code_steps.proofs.calls.leave.Goals as goal

pub returns-in-Some : goal.returns-in-Some
returns-in-Some c =
    let old = config_of c.args.config.now in
    let x = option_map datum_of c.args.value in
    IfOk-weaker c.return_to.result _ _
    (λ e h. ap (leave old.process x old.locals) (ap callers_of c.in-Some.ensures.items ∙ one_waits c.pop.new.self.items c.in-Some.caller) ∙ h)
    c.return_to.ensures

pub returns-in-None : goal.returns-in-None
returns-in-None c =
    let old = config_of c.args.config.now in
    ap (leave old.process (option_map datum_of c.args.value) old.locals)
    (none_wait c.args.config.now.callers.items (omega (arith, c.in-None.ensures.cases.0, c.args.config.now.callers.ok.0)))
