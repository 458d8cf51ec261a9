use Rattle.std.proofs.Common.{◌∷◌, ap, sym, ◌∙◌}
use Rattle.value_core.specs.View.{datum_of}
use Rattle.code_steps.proofs.Setting.{gets_none, gets_slot}
use Rattle.code_steps.proofs.variables.get_whole.Goals as goal

pub returns-in_ok-push-in-Some : goal.returns-in_ok-push-in-Some
returns-in_ok-push-in-Some c = λ code home.
    let old = c.args.stack.now in
    gets_slot code home c.args.slot old c.push.new.self c.args.run.now.frame (datum_of c.in-Some.value.now) (sym c.in-Some.ensures)
    (c.in_ok-push-in-Some.ensures {u = tt} ∙ ap (λ v. datum_of v ∷ old) (c.in_ok-copied-in-Some.ensures {u = tt}))

pub returns-in-None : goal.returns-in-None
returns-in-None c = λ code home. gets_none code home c.args.slot c.args.stack.now c.args.run.now.frame (sym c.in-None.ensures)
