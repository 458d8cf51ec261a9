use Rattle.std.proofs.Common.{◌≡◌, ℕ, List, map, take}
use Rattle.std.specs.Prelude.{option_map}
use Rattle.orca_syntax.specs.Shown.{decl}
use Rattle.type_tables.specs.Entries.{entry, or_other}
use Rattle.meaning_rules.specs.Programs.{implements}
use Rattle.program_bodies.specs.Objects.{object_type_seen}
use Rattle.program_bodies.proofs.FirstGiven.{declared_as, first_given}
use Rattle.program_bodies.proofs.implementations.note_unit.Given as goal

abbrev pub invariant-declarations : goal.invariant-declarations
invariant-declarations l = (n : List ℕ) → option_map object_type_seen (entry l.table n) ≡ or_other (option_map object_type_seen (entry l.initial.table n))
    (first_given (λ x. implements n x.by x.decl) (map (declared_as l.home l.unit.file) (map decl (take l.part-index l.unit.unit.declarations.items))))
