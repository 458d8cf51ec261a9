use Rattle.std.proofs.Common.{◌≡◌, List, map, take}
use Rattle.link_rules.specs.Units.{Source}
use Rattle.type_forms.specs.Forms.{AreTyped}
use Rattle.type_forms.specs.Seen.{top}
use Rattle.type_tables.specs.Entries.{entry}
use Rattle.type_tables.specs.Tables.{fields_at}
use Rattle.type_tables.proofs.tables.fields_of.Given as goal

abbrev pub invariant-items : goal.invariant-items
invariant-items l = (us : List Source) → AreTyped us l.forms → map (λ m. entry m) l.all.items ≡ map (fields_at us) (map top (take l.item-index l.tops))
