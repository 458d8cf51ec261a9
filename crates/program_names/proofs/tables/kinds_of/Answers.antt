use Rattle.std.proofs.Common.{[], ◌∷◌, arith}
use Rattle.std.specs.Prelude.{codes}
use Rattle.meaning_rules.specs.Programs.{is_specification}
use Rattle.type_forms.specs.Seen.{top}
use Rattle.program_names.specs.Naming.{name_text}
use Rattle.program_names.proofs.Lists.{all_grown, grown}
use Rattle.program_names.proofs.tables.kinds_of.Goals as goal

pub tops-preserved : goal.tops-preserved
tops-preserved c =
    grown top is_specification name_text (codes "Output" ∷ []) c.args.tops.now c.tops.item-index c.item-item.result _ _ c.tops-test.true c.item-item.is
    c.tops.invariant (c.in_ok-add_kind.ensures {u = tt})

pub returns : goal.returns
returns c = all_grown top is_specification name_text (codes "Output" ∷ []) c.args.tops.now c.tops.item-index _ (omega (arith, c.tops-test.false)) c.tops.invariant
