-- What a checked program within the limits has: it is accepted, preservation holds of it, and what fits is sound. These are proofs, which
-- the traits of a machine ask for, by the laws of meaning_rules and accepted_law.
use Rattle.std.proofs.Common.{map}
use Rattle.std.specs.Prelude.{List, [], ◌∷◌}
use Rattle.link_rules.specs.Units.{Source, source}
use Rattle.link_rules.specs.declared.named_unit.NamedUnit.{NamedUnit}
use Rattle.link_rules.proofs.OfText.{unit_of_text}
use Rattle.type_rules.proofs.Alike.{one_type}
use Rattle.type_decls.specs.declared.checked.Checked.{Checked}
use Rattle.accepted_law.specs.Limits.{IsWithinLimits}
use Rattle.accepted_law.specs.Numbers.{AreNumbers}
use Rattle.accepted_law.proofs.Accepted.{accepted}
use Rattle.accepted_law.proofs.Numbers.{are_numbers}
use Rattle.meaning_rules.specs.Accepted.{AreTexts, IsAccepted}
use Rattle.meaning_rules.specs.FitsSound.{FitsSound}
use Rattle.meaning_rules.specs.Preservation.{Preservation}
use Rattle.meaning_rules.proofs.Changing.{deleted_small_graph}
use Rattle.meaning_rules.proofs.ElementsFit.{elements_fit}
use Rattle.meaning_rules.proofs.PartsFit.{parts_fit}
use Rattle.meaning_rules.proofs.PathsFit.{graphs_fit, paths_fit}
use Rattle.meaning_rules.proofs.Premises.{Laws}
use Rattle.meaning_rules.proofs.Preserved.{preservation}
use Rattle.meaning_rules.proofs.Soundly.{fits_sound}
use Rattle.program_tables.specs.Tables.{AreCoded}
use Rattle.program_bodies.specs.Codes.{AreFew, sources}
use Rattle.program_bodies.proofs.Few.{few_values}
use Rattle.machine_laws.specs.ValueLaws.{ValueLaws}

-- words are sound, since each unit is that of a text
are_texts : (units : List NamedUnit) → AreTexts (map source units)
are_texts [] = tt
are_texts (u ∷ units) = ((unit_of_text u).words, are_texts units)

pub accepted_program : (c : Checked) → IsWithinLimits (sources c) → IsAccepted (sources c)
accepted_program c within = accepted (sources c) c.program.now.links c.well_typed (are_texts c.program.now.units.items) within

pub numbers_of : (c : Checked) → IsWithinLimits (sources c) → AreNumbers (sources c)
numbers_of c within = are_numbers (sources c) within

-- what code by number asks for
pub coded : (c : Checked) → IsWithinLimits (sources c) → AreCoded (sources c)
coded c within =
    let numbers = numbers_of c within in
    record { kinds = numbers.kinds; ops = numbers.ops; texts = numbers.texts; constants = (accepted_program c within).orderly.constants }

pub few : (c : Checked) → IsWithinLimits (sources c) → AreFew (sources c)
few c within = few_values (sources c) (accepted_program c within)

laws_of : ValueLaws → (us : List Source) → Laws us
laws_of laws us = record {
  same = record { same = λ t u. (one_type t u).0 };
  parts = parts_fit laws.assigned_graph us;
  paths = paths_fit us (parts_fit laws.assigned_graph us);
  elements = elements_fit (record {
    inserted_in_order = laws.inserted_in_order;
    deleted_in_order = laws.deleted_in_order;
    rest_in_order = laws.rest_in_order;
  }) us;
  graphs = graphs_fit (record { added_graph = laws.added_graph; deleted_graph = laws.deleted_graph }) us;
  sizes = record { sizes = laws.part_size; deleted_node = deleted_small_graph laws.deleted_size };
  told = laws.told_codes;
}

pub preserved : ValueLaws → (c : Checked) → IsWithinLimits (sources c) → Preservation (sources c)
preserved laws c within = preservation (sources c) (accepted_program c within) (laws_of laws (sources c))

pub sound : ValueLaws → (c : Checked) → IsWithinLimits (sources c) → FitsSound (sources c)
sound laws c within = fits_sound (sources c) (accepted_program c within) (record { sound = laws.sound_graph })
