use Rattle.std.proofs.Common.{◌∷◌, ap, refl, ◌∙◌}
use Rattle.value_core.specs.View.{datum_of}
use Rattle.code_steps.specs.declared.advance.Advance.TheVariants as advance
use Rattle.code_steps.proofs.Arriving.{pushed_on}
use Rattle.code_steps.proofs.constants.push.Goals as goal

pub returns : goal.returns
returns c = λ locals code home.
    let old = c.args.stack.now in
    pushed_on home (datum_of c.args.value.now) old old c.push.new.self locals locals advance.Next refl
    (c.in_ok-push.ensures {u = tt} ∙ ap (λ v. datum_of v ∷ old) (c.in_ok-copied.ensures {u = tt}))
