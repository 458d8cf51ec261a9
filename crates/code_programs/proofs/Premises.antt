-- What a checked program within the limits has: numbers that fit, and a text that it begins with.
use Rattle.std.proofs.Common.{List, [], ◌∷◌, map, refl}
use Rattle.link_rules.specs.Rules.{Links}
use Rattle.link_rules.specs.Units.{Source, source}
use Rattle.link_rules.specs.declared.named_unit.NamedUnit.{NamedUnit}
use Rattle.link_rules.proofs.OfText.{unit_of_text}
use Rattle.type_rules.specs.Breaches.{IsWellTyped}
use Rattle.value_core.specs.Datum.{none}
use Rattle.type_decls.specs.declared.checked.Checked.{Checked}
use Rattle.accepted_law.specs.Limits.{IsWithinLimits}
use Rattle.accepted_law.specs.Numbers.{AreNumbers}
use Rattle.meaning_rules.specs.Accepted.{AreTexts, IsAccepted}
use Rattle.meaning_rules.specs.Programs.{main_text}
use Rattle.program_tables.specs.Tables.{AreCoded}
use Rattle.program_bodies.specs.Codes.{sources}
use Rattle.code_rules.specs.Correct.{IsStart}

-- words are sound, since each unit is that of a text
are_texts : (units : List NamedUnit) → AreTexts (map source units)
are_texts [] = tt
are_texts (u ∷ units) = ((unit_of_text u).words, are_texts units)

-- by the law of checked programs
abbrev pub Accepts : Type 0
Accepts = (us : List Source) → Links us → IsWellTyped us → AreTexts us → IsWithinLimits us → IsAccepted us

pub accepted_program : Accepts → (c : Checked) → IsWithinLimits (sources c) → IsAccepted (sources c)
accepted_program law c within = law (sources c) c.program.now.links c.well_typed (are_texts c.program.now.units.items) within

-- what code by number asks for
pub coded : (us : List Source) → IsAccepted us → AreNumbers us → AreCoded us
coded us accepted numbers = record { kinds = numbers.kinds; ops = numbers.ops; texts = numbers.texts; constants = accepted.orderly.constants }

-- the text of OrcaMain is there, and has no parameters
pub begins : (us : List Source) → IsAccepted us → IsStart us (main_text us) none
begins us accepted =
    let main = accepted.main in
    record { of = main.0; parameters = []; block = main.1; there = main.2; is = main.3; given = refl }
