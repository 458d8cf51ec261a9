use Rattle.std.proofs.Common.{◌++◌, Option, subst, ◌∙◌}
use Rattle.type_rules.specs.declared.types.DataType.{DataType}
use Rattle.type_rules.specs.Rules.{unless}
use Rattle.type_forms.specs.Finding.{FirstOf, Finds}
use Rattle.type_forms.proofs.FirstOfBoth.{first_of_both}
use Rattle.type_exprs.proofs.designators.step_found.Goals as goal

pub returns : goal.returns
returns c = λ f g is_f is_g.
    let all : FirstOf c.lesser-first.result (f.breaches ++ g.breaches) =
    c.lesser-first.ensures ∙ first_of_both c.args.before.first c.args.step.first f.breaches g.breaches is_f.first is_g.first in
    subst (λ (o : Option DataType). Finds c.unless.result (unless (f.breaches ++ g.breaches) o)) is_g.is (c.unless.ensures (f.breaches ++ g.breaches) all)
