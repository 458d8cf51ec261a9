use Rattle.std.proofs.Common.{◌≡◌, List, map, take}
use Rattle.orca_syntax.specs.Shown.{operation}
use Rattle.link_rules.specs.Units.{Source}
use Rattle.type_forms.specs.Indexed.{Indexes}
use Rattle.meaning_rules.specs.Classes.{operation_class}
use Rattle.program_bodies.specs.Objects.{object_type_seen}
use Rattle.access_analysis.proofs.tables.classes_in.Given as goal

abbrev pub invariant-operations : goal.invariant-operations
invariant-operations l = (us : List Source) → Indexes l.index us →
    l.all.items ≡ map (operation_class us (object_type_seen l.of)) (map operation (take l.operation-index l.operations))
