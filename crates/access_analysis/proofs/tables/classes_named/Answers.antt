use Rattle.std.proofs.Common.{◌≡◌, [], Option, subst, sym, ap, ◌∙◌}
use Rattle.std.specs.Prelude.{IfOk, option_copied, option_map}
use Rattle.std.specs.Option.{option_map_or}
use Rattle.std.specs.Borrow.{Bor}
use Rattle.program_bodies.specs.declared.implementations.Implemented.{Implemented}
use Rattle.program_bodies.specs.Objects.{object_type_seen}
use Rattle.access_analysis.specs.Tables.{type_classes}
use Rattle.access_analysis.proofs.tables.classes_named.Goals as goal

pub returns-in-None : goal.returns-in-None
returns-in-None c = λ us names.
    c.new.ensures.items
    ∙ ap (λ (o : Option Implemented). option_map_or (type_classes us) (option_map object_type_seen o) [])
    (ap (λ (o : Option (Bor Implemented)). option_copied o) (sym c.in-None.is) ∙ c.get.ensures.value)

pub returns-in-Some : goal.returns-in-Some
returns-in-Some c = λ us names.
    subst (λ (o : Option Implemented). IfOk c.classes_in.result (λ v. v.items ≡ option_map_or (type_classes us) (option_map object_type_seen o) []))
    (sym (ap (λ (o : Option (Bor Implemented)). option_copied o) c.in-Some.is) ∙ c.get.ensures.value)
    (c.classes_in.ensures us names)
