use Rattle.std.proofs.Common.{◌≡◌, List, map, take}
use Rattle.link_rules.specs.Units.{Source}
use Rattle.meaning_rules.specs.Openings.{types_in}
use Rattle.type_forms.specs.Forms.{AreTyped}
use Rattle.type_forms.specs.Seen.{top}
use Rattle.type_tables.specs.Entries.{entry}
use Rattle.program_tables.specs.Listed.{field_places}
use Rattle.program_tables.proofs.records.records_of.Given as goal

abbrev pub invariant-tops : goal.invariant-tops
invariant-tops l = (us : List Source) → AreTyped us l.forms →
    (map (λ r. entry r.places) l.all.items ≡ map field_places (map top (take l.item-index l.tops)))
    × (map (λ r. r.types.items) l.all.items ≡ map (types_in us) (map top (take l.item-index l.tops)))
