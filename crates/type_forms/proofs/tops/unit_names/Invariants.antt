use Rattle.std.proofs.Common.{◌≡◌, ◌++◌, drop, map}
use Rattle.std.specs.Prelude.{flat_map}
use Rattle.orca_syntax.specs.Shown.{decl}
use Rattle.link_rules.specs.Units.{module_name, source}
use Rattle.type_rules.specs.TopLevel.{names_in}
use Rattle.type_forms.specs.Seen.{top}
use Rattle.type_forms.proofs.tops.unit_names.Given as goal

abbrev pub invariant-declarations : goal.invariant-declarations
invariant-declarations l =
    map top l.all.items ++ flat_map (names_in (module_name (source l.unit)) l.unit.file) (map decl (drop l.part-index l.unit.unit.declarations.items))
    ≡ map top l.initial.all.items ++ flat_map (names_in (module_name (source l.unit)) l.unit.file) (map decl l.unit.unit.declarations.items)
