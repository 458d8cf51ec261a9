use Rattle.std.proofs.Common.{◌≡◌, ◌++◌, drop, map}
use Rattle.link_rules.specs.Units.{imports, source}
use Rattle.orca_modules.specs.Seen.{import_line}
use Rattle.orca_modules.proofs.sites.imports.Given as goal

abbrev pub invariant-units : goal.invariant-units
invariant-units l = map import_line l.all.items ++ imports (map source (drop l.unit-index l.units)) ≡ imports (map source l.units)
