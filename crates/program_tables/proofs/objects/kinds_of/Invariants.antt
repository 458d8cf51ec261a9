use Rattle.std.proofs.Common.{◌≡◌, ℕ, length, take, map, filter}
use Rattle.meaning_rules.specs.Programs.{is_specification}
use Rattle.type_forms.specs.Seen.{top}
use Rattle.program_tables.proofs.Listing.{Has}
use Rattle.program_tables.proofs.objects.kinds_of.Given as goal

abbrev pub invariant-tops : goal.invariant-tops
invariant-tops l =
    (map top l.specifications.items ≡ filter is_specification (take l.item-index (map top l.tops)))
    × (length l.before.items ≡ l.item-index)
    × Has (λ (i : ℕ). length (filter is_specification (take i (map top l.tops)))) l.before.items
