use Rattle.std.proofs.Common.{◌≡◌, drop, map, filter}
use Rattle.std.specs.Prelude.{slice_get}
use Rattle.type_forms.specs.Seen.{top}
use Rattle.meaning_rules.specs.Programs.{is_specification}
use Rattle.access_analysis.proofs.classes.specification_at.Given as goal

abbrev pub invariant-tops : goal.invariant-tops
invariant-tops l =
    slice_get (filter is_specification (map top (drop l.item-index l.tops))) l.left ≡ slice_get (filter is_specification (map top l.tops)) l.place
