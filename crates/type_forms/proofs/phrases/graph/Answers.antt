use Rattle.std.proofs.Common.{◌++◌, Bool, Option, subst, ap, ◌∙◌}
use Rattle.std.specs.Prelude.{IfOk, option_map}
use Rattle.orca_base.specs.declared.place.Place.{Place}
use Rattle.orca_syntax.specs.Places.{bound_place}
use Rattle.type_rules.specs.declared.types.Measured.{Measured}
use Rattle.type_rules.specs.Order.{least, lesser}
use Rattle.type_rules.specs.Rules.{asks, unless}
use Rattle.type_rules.specs.TypePhrases.{graph_of, is_number_one, within_limits}
use Rattle.type_forms.specs.Finding.{Finds, FirstOf}
use Rattle.type_forms.proofs.FirstOfBoth.{first_of_both}
use Rattle.type_forms.proofs.phrases.graph.Goals as goal

pub returns : goal.returns
returns c = λ f e is_f is_e.
    let low = c.args.low.now in
    let nine = asks 9 (bound_place low) (is_number_one low) in
    let one : FirstOf c.asks-one.result nine =
    c.asks-one.ensures ∙ ap (λ (p : Place). least (asks 9 p c.is_number_one.result)) c.place_of_bound.ensures
    ∙ ap (λ (b : Bool). least (asks 9 (bound_place low) b)) c.is_number_one.ensures in
    let all : FirstOf c.lesser-breach.result (f.breaches ++ (nine ++ e.breaches)) =
    c.lesser-breach.ensures ∙ ap (lesser c.args.first.first) c.lesser.ensures
    ∙ first_of_both c.args.first.first (lesser c.asks-one.result c.args.element.first) f.breaches (nine ++ e.breaches) is_f.first
    (first_of_both c.asks-one.result c.args.element.first nine e.breaches one is_e.first) in
    subst (λ (o : Option Measured). IfOk c.limited.result (λ r. Finds r (within_limits c.args.at (unless (f.breaches ++ (nine ++ e.breaches)) (option_map graph_of o)))))
    is_e.is (c.limited.ensures (f.breaches ++ (nine ++ e.breaches)) all)
