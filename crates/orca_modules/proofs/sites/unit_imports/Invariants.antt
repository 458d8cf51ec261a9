use Rattle.std.proofs.Common.{◌≡◌, ◌++◌, drop, map}
use Rattle.link_rules.specs.Units.{imported, source}
use Rattle.orca_modules.specs.Seen.{import_line}
use Rattle.orca_modules.proofs.sites.unit_imports.Given as goal

abbrev pub invariant-imports : goal.invariant-imports
invariant-imports l =
    map import_line l.all.items ++ map (imported (source l.unit)) (drop l.name-index l.unit.unit.imports.items)
    ≡ map import_line l.initial.all.items ++ map (imported (source l.unit)) l.unit.unit.imports.items
