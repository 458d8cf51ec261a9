use Rattle.std.proofs.Common.{◌≡◌, ℕ, List, map, take}
use Rattle.std.specs.Prelude.{option_map}
use Rattle.link_rules.specs.Units.{Source}
use Rattle.type_forms.specs.Forms.{AreTyped}
use Rattle.type_forms.specs.Seen.{top}
use Rattle.type_tables.specs.Entries.{entry}
use Rattle.meaning_rules.specs.Programs.{implementation, specified}
use Rattle.program_bodies.specs.Matching.{Both, Match}
use Rattle.program_bodies.specs.Objects.{IsObjectCode, object_type_seen}
use Rattle.program_bodies.proofs.objects.objects_of.Given as goal

abbrev pub invariant-specifications : goal.invariant-specifications
invariant-specifications l = (us : List Source) → AreTyped us l.forms →
    ((n : List ℕ) → option_map object_type_seen (entry l.implementations n) ≡ implementation us n) →
    Match (λ o t. Both (IsObjectCode us) o (specified us t)) l.all.items (map top (take l.item-index l.specifications))
