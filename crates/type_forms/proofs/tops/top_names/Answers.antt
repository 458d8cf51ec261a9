use Rattle.std.proofs.Common.{◌≡◌, ◌+◌, List, ◌++◌, drop, map, sym, ap, ◌∙◌}
use Rattle.std.proofs.lemmas.List.{append-nil, drop_all}
use Rattle.link_rules.specs.declared.named_unit.NamedUnit.{NamedUnit}
use Rattle.link_rules.specs.Units.{source}
use Rattle.type_rules.specs.TopLevel.{top_names, unit_names}
use Rattle.type_forms.specs.Seen.{top}
use Rattle.type_forms.proofs.Loops.{appended, rest_is}
use Rattle.type_forms.proofs.tops.top_names.Goals as goal

pub units-preserved : goal.units-preserved
units-preserved c =
    appended (map top c.units.all.items) _ (unit_names (source c.unit-item.result)) (top_names (map source (drop (c.units.unit-index + 1) c.args.units.now))) _ _
    c.in_ok-unit_names.ensures
    (ap (λ (l : List NamedUnit). top_names (map source l)) (rest_is c.args.units.now c.units.unit-index c.unit-item.result c.units-test.true c.unit-item.is))
    c.units.invariant

pub returns : goal.returns
returns c =
    let all = map top c.units.all.items in
    sym (append-nil all)
    ∙ ap (λ (l : List NamedUnit). all ++ top_names (map source l)) (sym (drop_all c.units.unit-index c.args.units.now c.units-test.false))
    ∙ c.units.invariant
