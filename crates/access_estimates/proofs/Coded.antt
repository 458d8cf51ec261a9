-- The numbers of a checked program within the limits fit their types.
use Rattle.std.proofs.Common.{map}
use Rattle.std.specs.Prelude.{List, [], ◌∷◌}
use Rattle.link_rules.specs.Units.{source}
use Rattle.link_rules.specs.declared.named_unit.NamedUnit.{NamedUnit}
use Rattle.link_rules.proofs.OfText.{unit_of_text}
use Rattle.type_decls.specs.declared.checked.Checked.{Checked}
use Rattle.accepted_law.specs.Limits.{IsWithinLimits}
use Rattle.accepted_law.proofs.Accepted.{accepted}
use Rattle.accepted_law.proofs.Numbers.{are_numbers}
use Rattle.meaning_rules.specs.Accepted.{AreTexts}
use Rattle.program_tables.specs.Tables.{AreCoded}
use Rattle.program_bodies.specs.Codes.{sources}

-- words are sound, since each unit is that of a text
are_texts : (units : List NamedUnit) → AreTexts (map source units)
are_texts [] = tt
are_texts (u ∷ units) = ((unit_of_text u).words, are_texts units)

pub coded : (c : Checked) → IsWithinLimits (sources c) → AreCoded (sources c)
coded c within =
    let numbers = are_numbers (sources c) within in
    let program = accepted (sources c) c.program.now.links c.well_typed (are_texts c.program.now.units.items) within in
    record { kinds = numbers.kinds; ops = numbers.ops; texts = numbers.texts; constants = program.orderly.constants }
