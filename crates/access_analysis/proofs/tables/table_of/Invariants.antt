use Rattle.std.proofs.Common.{◌≡◌, [], ◌∷◌, take, map, filter}
use Rattle.type_forms.specs.Indexed.{Indexes}
use Rattle.type_forms.specs.Seen.{top}
use Rattle.meaning_rules.specs.Programs.{is_specification}
use Rattle.program_bodies.specs.Codes.{sources}
use Rattle.access_analysis.specs.Tables.{specified_classes}
use Rattle.access_analysis.proofs.tables.table_of.Given as goal

abbrev pub invariant-tops : goal.invariant-tops
invariant-tops l = Indexes l.checked.symbols.index (sources l.checked) →
    map (λ v. v.items) l.all.items ≡ [] ∷ map (specified_classes (sources l.checked)) (filter is_specification (take l.item-index (map top l.tops)))
