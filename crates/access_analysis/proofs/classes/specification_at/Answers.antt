use Rattle.std.proofs.Common.{List, map, filter, sym, ap, ◌∙◌}
use Rattle.std.specs.Prelude.{slice_get}
use Rattle.std.proofs.Math.ListN.{drop_of_length-le}
use Rattle.type_forms.specs.declared.tops.Top.{Top}
use Rattle.type_forms.specs.Seen.{top}
use Rattle.meaning_rules.specs.Programs.{is_specification}
use Rattle.access_analysis.proofs.Specified.{sought_behind, sought_here}
use Rattle.access_analysis.proofs.classes.specification_at.Goals as goal

pub tops-preserved : goal.tops-preserved
tops-preserved c =
    sought_behind c.args.tops.now c.tops.item-index c.tops.left c.left_behind-left.result c.item-item.result c.is_specification-specified.result c.is_sought.result _
    c.tops-test.true c.item-item.is c.is_specification-specified.ensures c.is_sought.ensures c.if-is_sought.false c.left_behind-left.ensures c.tops.invariant

pub returns-then-is_sought : goal.returns-then-is_sought
returns-then-is_sought c =
    sought_here c.args.tops.now c.tops.item-index c.tops.left c.item-item.result c.is_specification-specified.result c.is_sought.result _
    c.tops-test.true c.item-item.is c.is_specification-specified.ensures c.is_sought.ensures c.if-is_sought.true c.tops.invariant

pub returns : goal.returns
returns c =
    ap (λ (l : List Top). slice_get (filter is_specification (map top l)) c.tops.left) (sym (drop_of_length-le c.args.tops.now c.tops-test.false)) ∙ c.tops.invariant
