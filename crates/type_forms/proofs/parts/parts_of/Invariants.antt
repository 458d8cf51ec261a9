use Rattle.std.proofs.Common.{◌≡◌, List, take, map}
use Rattle.link_rules.specs.Units.{Source}
use Rattle.type_forms.specs.Seen.{top}
use Rattle.type_forms.specs.Indexed.{Indexes}
use Rattle.type_forms.specs.Parts.{parts_at}
use Rattle.type_forms.proofs.parts.parts_of.Given as goal

abbrev pub invariant-items : goal.invariant-items
invariant-items l = (us : List Source) → Indexes l.index us → l.parts.items ≡ map (parts_at us) (map top (take l.item-index l.tops))
