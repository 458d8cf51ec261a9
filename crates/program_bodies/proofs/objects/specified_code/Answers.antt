use Rattle.std.proofs.Common.{Option, None, Some, subst, sym, ap, ◌∙◌}
use Rattle.std.specs.Prelude.{option_copied, option_map}
use Rattle.std.specs.Borrow.{Bor}
use Rattle.program_bodies.specs.declared.implementations.Implemented.{Implemented}
use Rattle.program_bodies.specs.Matching.{Both}
use Rattle.program_bodies.specs.Objects.{IsObjectCode, object_type_seen}
use Rattle.program_bodies.proofs.objects.specified_code.Goals as goal

pub returns-in-None : goal.returns-in-None
returns-in-None c = λ us t.
    subst (λ (o : Option Implemented). Both (IsObjectCode us) None (option_map object_type_seen o))
    (sym (ap (λ (o : Option (Bor Implemented)). option_copied o) c.in-None.is) ∙ c.get.ensures.value) tt

pub returns-in_ok-code-in-Some : goal.returns-in_ok-code-in-Some
returns-in_ok-code-in-Some c = λ us t.
    subst (λ (o : Option Implemented). Both (IsObjectCode us) (Some c.in_ok-code-in-Some.code) (option_map object_type_seen o))
    (sym (ap (λ (o : Option (Bor Implemented)). option_copied o) c.in-Some.is) ∙ c.get.ensures.value)
    ((c.in_ok-code-in-Some.ensures {u = tt}) us t)
