use Rattle.std.proofs.Common.{◌≡◌, ◌∷◌, take, map, filter}
use Rattle.std.specs.Prelude.{codes}
use Rattle.meaning_rules.specs.Programs.{is_specification}
use Rattle.type_forms.specs.Seen.{top}
use Rattle.program_names.specs.Naming.{name_text}
use Rattle.program_names.proofs.tables.kinds_of.Given as goal

abbrev pub invariant-tops : goal.invariant-tops
invariant-tops l = l.kinds.items ≡ codes "Output" ∷ map name_text (filter is_specification (take l.item-index (map top l.tops)))
