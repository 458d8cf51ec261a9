use Rattle.std.proofs.Common.{◌≡◌, ◌++◌, drop, map}
use Rattle.link_rules.specs.Units.{source}
use Rattle.type_rules.specs.TopLevel.{top_names}
use Rattle.type_forms.specs.Seen.{top}
use Rattle.type_forms.proofs.tops.top_names.Given as goal

abbrev pub invariant-units : goal.invariant-units
invariant-units l = map top l.all.items ++ top_names (map source (drop l.unit-index l.units)) ≡ top_names (map source l.units)
