use Rattle.std.proofs.Common.{◌≡◌, ◌++◌, drop, map}
use Rattle.std.specs.Prelude.{flat_map}
use Rattle.orca_syntax.specs.Shown.{decl}
use Rattle.link_rules.specs.Units.{defined_by, module_name, source}
use Rattle.orca_modules.specs.Seen.{definition}
use Rattle.orca_modules.proofs.sites.unit_definitions.Given as goal

abbrev pub invariant-declarations : goal.invariant-declarations
invariant-declarations l =
    map definition l.all.items ++ flat_map (defined_by (module_name (source l.unit)) l.unit.file) (map decl (drop l.part-index l.unit.unit.declarations.items))
    ≡ map definition l.initial.all.items ++ flat_map (defined_by (module_name (source l.unit)) l.unit.file) (map decl l.unit.unit.declarations.items)
