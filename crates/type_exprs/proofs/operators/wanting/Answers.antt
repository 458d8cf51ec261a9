use Rattle.std.proofs.Common.{Bool, ap, ◌∙◌}
use Rattle.type_rules.specs.Order.{least}
use Rattle.type_rules.specs.Rules.{asks, fits}
use Rattle.type_forms.proofs.FirstOfBoth.{first_of_both}
use Rattle.type_exprs.specs.Wanted.{test}
use Rattle.type_exprs.proofs.operators.wanting.Goals as goal

pub returns : goal.returns
returns c = λ f is_f.
    let rule = c.args.rule in
    let wants = test c.args.wanted in
    c.lesser.ensures
    ∙ first_of_both c.args.found.now.first c.asks.result f.breaches (asks rule c.args.at (fits wants f.is)) is_f.first
    (c.asks.ensures ∙ ap (λ (b : Bool). least (asks rule c.args.at b)) (c.meets.ensures ∙ ap (fits wants) is_f.is))
