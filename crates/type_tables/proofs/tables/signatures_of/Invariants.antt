use Rattle.std.proofs.Common.{◌≡◌, List, map, take}
use Rattle.link_rules.specs.Units.{Source}
use Rattle.type_forms.specs.Forms.{AreTyped}
use Rattle.type_forms.specs.Seen.{top}
use Rattle.type_tables.specs.Tables.{signature_at}
use Rattle.type_tables.proofs.tables.signatures_of.Given as goal

abbrev pub invariant-items : goal.invariant-items
invariant-items l = (us : List Source) → AreTyped us l.forms → l.all.items ≡ map (signature_at us) (map top (take l.item-index l.tops))
