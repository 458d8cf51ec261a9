use Rattle.std.proofs.Common.{◌≡◌, ◌+◌, List, [], ◌++◌, drop, map, subst, sym, ap, ◌∙◌}
use Rattle.std.specs.Prelude.{flat_map}
use Rattle.std.proofs.Math.ListN.{drop_of_length-le}
use Rattle.std.proofs.lemmas.Result.{err_from_is_err_and}
use Rattle.orca_base.specs.Refusal.{because_weaker}
use Rattle.link_rules.specs.declared.named_unit.NamedUnit.{NamedUnit}
use Rattle.link_rules.specs.Units.{Source, source}
use Rattle.link_rules.specs.Rules.{first}
use Rattle.type_rules.specs.declared.type_error.TypeError.{TypeError}
use Rattle.type_rules.specs.Breaches.{type_error, unit_breaches}
use Rattle.type_forms.proofs.Loops.{rest_is}
use Rattle.type_decls.specs.Judged.{Judges}
use Rattle.type_decls.proofs.Judging.{first_behind}
use Rattle.type_decls.proofs.units.units_judged.Goals as goal

abbrev errors : List Source → Source → List TypeError
errors us u = map (type_error u) (unit_breaches us u)

pub returns : goal.returns
returns c = λ us ctx.
    sym (c.units.invariant us ctx)
    ∙ ap (λ (l : List NamedUnit). flat_map (errors us) (map source l)) (drop_of_length-le c.args.units.now c.units-test.false)

pub units-preserved : goal.units-preserved
units-preserved c = λ us ctx.
    let x = c.unit-item.result in
    let rest = flat_map (errors us) (map source (drop (c.units.unit-index + 1) c.args.units.now)) in
    let none : errors us (source x) ≡ [] = subst (λ r. Judges r (errors us (source x))) (c.in_ok-unit_judged.was {u = tt}) (c.unit_judged.ensures us ctx) in
    sym (ap (λ (l : List NamedUnit). flat_map (errors us) (map source l)) (rest_is c.args.units.now c.units.unit-index x c.units-test.true c.unit-item.is)
    ∙ ap (λ (es : List TypeError). es ++ rest) none)
    ∙ c.units.invariant us ctx

pub returns-in_err-unit_judged : goal.returns-in_err-unit_judged
returns-in_err-unit_judged c = λ us ctx.
    let p = err_from_is_err_and c.from_residual.result c.from_residual.ensures.1 in
    let x = c.unit-item.result in
    let rest = flat_map (errors us) (map source (drop (c.units.unit-index + 1) c.args.units.now)) in
    rw (p.1, p.2) (because_weaker c.in_err-unit_judged.field-0.0 _ _ _ _ (c.in_err-unit_judged.ensures us ctx)
    (λ e is. ap first (sym (c.units.invariant us ctx)
    ∙ ap (λ (l : List NamedUnit). flat_map (errors us) (map source l)) (rest_is c.args.units.now c.units.unit-index x c.units-test.true c.unit-item.is))
    ∙ first_behind (errors us (source x)) rest e is))
