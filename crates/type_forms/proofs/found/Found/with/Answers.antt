use Rattle.std.proofs.Common.{◌++◌, Option, subst, sym, ap, ◌∙◌}
use Rattle.type_rules.specs.declared.breach.Breach.{Breach}
use Rattle.type_rules.specs.Order.{least, lesser}
use Rattle.type_rules.specs.Rules.{unless}
use Rattle.type_rules.proofs.Least.{least_of_both}
use Rattle.type_forms.specs.Finding.{Finds, FirstOf}
use Rattle.type_forms.proofs.found.Found.with.Goals as goal

pub returns : goal.returns
returns g c = λ f bs is more.
    let both : FirstOf c.lesser.result (f.breaches ++ bs) =
    c.lesser.ensures ∙ ap (λ (o : Option Breach). lesser o c.args.more) is.first ∙ ap (lesser (least f.breaches)) more ∙ sym (least_of_both f.breaches bs)
    in subst (λ (o : Option g.row.T.Denot). Finds {X = g.row.T.Denot} c.unless.result (unless (f.breaches ++ bs) o)) is.is (c.unless.ensures (f.breaches ++ bs) both)
