use Rattle.std.proofs.Common.{ap, sym, ◌∙◌, List}
use Rattle.std.specs.List.{list_all}
use Rattle.std.proofs.lemmas.List.Folds.{list_all-map}
use Rattle.type_rules.specs.TopLevel.{TopName}
use Rattle.type_forms.specs.declared.tops.Top.{Top}
use Rattle.type_forms.specs.Seen.{top, what}
use Rattle.accepted_law.specs.Limits.{has_few_parameters}
use Rattle.program_limits.proofs.parameters.have_few.Goals as goal

pub returns : goal.returns
returns c =
    c.tops_have_few.ensures
    ∙ ap (λ (ts : List Top). list_all (λ t. has_few_parameters (what t.what)) ts) c.deref.ensures.value
    ∙ sym (list_all-map (λ t. has_few_parameters t.what) top c.in_ok-all.all.items)
    ∙ ap (λ (ts : List TopName). list_all (λ t. has_few_parameters t.what) ts) (c.in_ok-all.ensures {u = tt})
