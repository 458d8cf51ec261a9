use Rattle.std.proofs.Common.{◌≡◌, ◌++◌, drop, map}
use Rattle.link_rules.specs.Units.{definitions, source}
use Rattle.orca_modules.specs.Seen.{definition}
use Rattle.orca_modules.proofs.sites.definitions.Given as goal

abbrev pub invariant-units : goal.invariant-units
invariant-units l = map definition l.all.items ++ definitions (map source (drop l.unit-index l.units)) ≡ definitions (map source l.units)
