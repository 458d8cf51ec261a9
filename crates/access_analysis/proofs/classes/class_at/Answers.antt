use Rattle.std.proofs.Common.{Option, sym, ap, ◌∙◌}
use Rattle.std.specs.Prelude.{option_map}
use Rattle.std.specs.Option.{option_map_or}
use Rattle.value_core.specs.declared.action.Class.TheVariants.{Writes}
use Rattle.meaning_rules.specs.Classes.{type_class}
use Rattle.meaning_rules.specs.Programs.{ObjectType}
use Rattle.program_bodies.specs.declared.implementations.Implemented.{Implemented}
use Rattle.program_bodies.specs.Codes.{sources}
use Rattle.program_bodies.specs.Objects.{object_type_seen}
use Rattle.access_analysis.proofs.classes.class_at.Goals as goal

pub returns-in-None : goal.returns-in-None
returns-in-None c = λ names.
    ap (λ (o : Option ObjectType). option_map_or (type_class (sources c.args.checked.now) c.args.op) o Writes)
    (ap (λ (o : Option Implemented). option_map object_type_seen o) (sym c.in-None.is) ∙ c.implemented.ensures names)

pub returns-in-Some : goal.returns-in-Some
returns-in-Some c = λ names.
    let us = sources c.args.checked.now in
    c.class_in.ensures us names
    ∙ ap (λ (o : Option ObjectType). option_map_or (type_class us c.args.op) o Writes)
    (ap (λ (o : Option Implemented). option_map object_type_seen o) (sym c.in-Some.is) ∙ c.implemented.ensures names)
