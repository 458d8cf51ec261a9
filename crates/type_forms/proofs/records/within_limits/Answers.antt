use Rattle.std.proofs.Common.{subst, ap, ◌∙◌}
use Rattle.type_rules.specs.declared.types.Measured.{Measured}
use Rattle.type_rules.specs.Rules.{Found, asks, fits}
use Rattle.type_rules.specs.TypePhrases.{is_small}
use Rattle.type_forms.specs.Finding.{Finds}
use Rattle.type_forms.specs.Measures.{cut_found}
use Rattle.type_forms.proofs.Cut.{within_cut}
use Rattle.type_forms.proofs.records.within_limits.Goals as goal

pub returns : goal.returns
returns c = λ f is_f.
    subst (λ (g : Found Measured). Finds c.with.result g)
    (within_cut c.args.at f.breaches f.is c.is_small.result (c.is_small.ensures ∙ ap (fits is_small) is_f.is))
    (c.with.ensures (cut_found f) (asks 10 c.args.at c.is_small.result) is_f c.asks-breach.ensures)
