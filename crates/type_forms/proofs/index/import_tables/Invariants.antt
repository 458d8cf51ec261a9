use Rattle.std.proofs.Common.{map}
use Rattle.link_rules.specs.Units.{source}
use Rattle.type_forms.specs.Indexed.{ImportsOf}
use Rattle.type_forms.proofs.index.import_tables.Given as goal

abbrev pub invariant-units : goal.invariant-units
invariant-units l = ImportsOf l.tables (map source l.units)
