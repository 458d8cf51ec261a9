use Rattle.std.proofs.Common.{◌++◌, Option, subst, ap, ◌∙◌}
use Rattle.std.specs.Prelude.{option_map}
use Rattle.type_rules.specs.declared.types.Measured.{Measured}
use Rattle.type_rules.specs.Rules.{Found, unless}
use Rattle.type_rules.specs.TypePhrases.{with_field}
use Rattle.type_forms.specs.Finding.{FirstOf, Finds}
use Rattle.type_forms.specs.Measures.{cut}
use Rattle.type_forms.proofs.Cut.{cut_unless}
use Rattle.type_forms.proofs.FirstOfBoth.{first_of_both}
use Rattle.type_forms.proofs.records.field_before.Goals as goal

pub returns : goal.returns
returns c = λ f r is_f is_r.
    let bs = f.breaches ++ r.breaches in
    let all : FirstOf c.lesser-first.result bs =
    c.lesser-first.ensures ∙ first_of_both c.args.field.first c.args.rest.first f.breaches r.breaches is_f.first is_r.first in
    let whole = c.with_field.ensures r.is is_r.is ∙ ap (λ (x : Option Measured). option_map cut (with_field x r.is)) is_f.is in
    subst (λ (g : Found Measured). Finds c.unless.result g) (cut_unless bs (with_field f.is r.is))
    (subst (λ (x : Option Measured). Finds c.unless.result (unless bs x)) whole (c.unless.ensures bs all))
