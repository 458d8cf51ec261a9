use Rattle.std.proofs.Common.{◌≡◌, ◌∷◌, [], take, map, filter}
use Rattle.std.specs.Prelude.{codes}
use Rattle.meaning_rules.specs.Programs.{is_specification}
use Rattle.type_forms.specs.Seen.{top}
use Rattle.program_names.specs.Naming.{operation_texts}
use Rattle.program_names.proofs.tables.operations_of.Given as goal

abbrev pub invariant-tops : goal.invariant-tops
invariant-tops l = map (λ o. o.names.items) l.all.items ≡ (codes "WriteLine" ∷ []) ∷ map operation_texts (filter is_specification (take l.item-index (map top l.tops)))
