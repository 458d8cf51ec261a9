use Rattle.std.proofs.Common.{ℤ, ◌++◌, Bool, Option, subst, ap, ◌∙◌}
use Rattle.std.specs.Prelude.{IfOk}
use Rattle.orca_base.specs.declared.place.Place.{Place}
use Rattle.orca_syntax.specs.Places.{bound_place}
use Rattle.type_rules.specs.declared.types.Measured.{Measured}
use Rattle.type_rules.specs.Order.{least, lesser}
use Rattle.type_rules.specs.Rules.{asks, unless}
use Rattle.type_rules.specs.TypePhrases.{array_found, at_most, within_limits}
use Rattle.type_forms.specs.Finding.{Finds, FirstOf}
use Rattle.type_forms.proofs.ArrayLimits.{asked}
use Rattle.type_forms.proofs.FirstOfBoth.{first_of_both}
use Rattle.type_forms.proofs.phrases.ranged.Goals as goal

pub returns : goal.returns
returns c = λ f l e is_f is_l is_e.
    let low = c.args.low.now in
    let nine = asks 9 (bound_place low) (at_most f.is l.is) in
    let inside = f.breaches ++ (l.breaches ++ (nine ++ e.breaches)) in
    let order : FirstOf c.asks-order.result nine =
    c.asks-order.ensures ∙ ap (λ (p : Place). least (asks 9 p c.at_most.result)) c.place_of_bound.ensures
    ∙ ap (λ (b : Bool). least (asks 9 (bound_place low) b))
    (c.at_most.ensures ∙ ap (λ (o : Option ℤ). at_most o c.args.last.is) is_f.is ∙ ap (at_most f.is) is_l.is) in
    let last_two : FirstOf (lesser c.args.last.first c.lesser.result) (l.breaches ++ (nine ++ e.breaches)) =
    first_of_both c.args.last.first c.lesser.result l.breaches (nine ++ e.breaches) is_l.first
    (c.lesser.ensures ∙ first_of_both c.asks-order.result c.args.element.first nine e.breaches order is_e.first) in
    let all : FirstOf c.lesser-breach.result inside =
    c.lesser-breach.ensures ∙ ap (lesser c.args.first.first) c.lesser-2.ensures
    ∙ first_of_both c.args.first.first (lesser c.args.last.first c.lesser.result) f.breaches (l.breaches ++ (nine ++ e.breaches)) is_f.first last_two in
    let said = c.array.ensures inside all
    (λ none. ap (λ (o : Option ℤ). at_most o c.args.last.is) is_f.is ∙ ap (at_most f.is) is_l.is ∙ asked f.breaches l.breaches e.breaches 9 (bound_place low) (at_most f.is l.is) none) in
    subst (λ (o : Option ℤ). IfOk c.array.result (λ r. Finds r (within_limits c.args.at (unless inside (array_found o l.is e.is))))) is_f.is
    (subst (λ (o : Option ℤ). IfOk c.array.result (λ r. Finds r (within_limits c.args.at (unless inside (array_found c.args.first.is o e.is))))) is_l.is
    (subst (λ (o : Option Measured). IfOk c.array.result (λ r. Finds r (within_limits c.args.at (unless inside (array_found c.args.first.is c.args.last.is o))))) is_e.is
    said))
