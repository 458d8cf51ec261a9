use Rattle.std.proofs.Common.{◌≡◌, map, take}
use Rattle.type_forms.specs.Seen.{top}
use Rattle.type_tables.specs.Entries.{entry}
use Rattle.program_tables.specs.Listed.{operation_places}
use Rattle.program_tables.proofs.objects.operations_of.Given as goal

abbrev pub invariant-tops : goal.invariant-tops
invariant-tops l = map (λ m. entry m) l.all.items ≡ map operation_places (map top (take l.item-index l.tops))
