use Rattle.std.proofs.Common.{◌≡◌, ℕ, List, map, take}
use Rattle.std.specs.Prelude.{flat_map, option_map}
use Rattle.link_rules.specs.Declarations.{declarations_of}
use Rattle.link_rules.specs.Units.{source}
use Rattle.type_tables.specs.Entries.{entry}
use Rattle.meaning_rules.specs.Programs.{implements}
use Rattle.program_bodies.specs.Objects.{object_type_seen}
use Rattle.program_bodies.proofs.FirstGiven.{first_given}
use Rattle.program_bodies.proofs.implementations.implementations_of.Given as goal

abbrev pub invariant-units : goal.invariant-units
invariant-units l = (n : List ℕ) → option_map object_type_seen (entry l.table n) ≡
    first_given (λ x. implements n x.by x.decl) (flat_map declarations_of (map source (take l.unit-index l.units)))
