use Rattle.std.proofs.Common.{List, [], ◌∷◌, map, ap, ◌∙◌, arith}
use Rattle.link_rules.specs.declared.named_unit.NamedUnit.{NamedUnit}
use Rattle.link_rules.specs.Units.{source}
use Rattle.type_rules.specs.TopLevel.{top_names}
use Rattle.type_forms.specs.Seen.{top}
use Rattle.meaning_rules.specs.Programs.{implementation, is_specification}
use Rattle.program_bodies.specs.Codes.{sources}
use Rattle.access_analysis.specs.Tables.{specified_classes}
use Rattle.access_analysis.proofs.Listed.{all_grown, grown, one_empty}
use Rattle.access_analysis.proofs.tables.table_of.Goals as goal

pub tops-init : goal.tops-init
tops-init c = λ names. one_empty _ c.new-output.result _ _ c.new-all.ensures.items c.in_ok-push.ensures.items c.new-output.ensures.items

pub tops-preserved : goal.tops-preserved
tops-preserved c = λ names.
    let us = sources c.args.checked.now in
    grown top is_specification (specified_classes us) ([] ∷ []) c.tops-tops.result.now c.tops.item-index c.item-item.result _ _ c.tops-test.true c.item-item.is
    (c.tops.invariant names)
    ((c.in_ok-add_classes.ensures {u = tt}) us names
    (λ n. (c.in_ok-implementations.ensures {u = tt}) n ∙ ap (λ (l : List NamedUnit). implementation (map source l) n) c.deref.ensures.value))

pub returns : goal.returns
returns c = λ names.
    let us = sources c.args.checked.now in
    all_grown top is_specification (specified_classes us) ([] ∷ []) c.tops-tops.result.now c.tops.item-index (top_names us) _ (omega (arith, c.tops-test.false))
    (c.tops-tops.ensures us names) (c.tops.invariant names)
