-- The first of two lists of breaches.
use Rattle.std.proofs.Common.{List, ◌++◌, Option, sym, ap, ◌∙◌}
use Rattle.type_rules.specs.declared.breach.Breach.{Breach}
use Rattle.type_rules.specs.Order.{least, lesser}
use Rattle.type_rules.proofs.Least.{least_of_both}
use Rattle.type_forms.specs.Finding.{FirstOf}

pub first_of_both : (x y : Option Breach) (bs cs : List Breach) → FirstOf x bs → FirstOf y cs → FirstOf (lesser x y) (bs ++ cs)
first_of_both x y bs cs e f = ap (λ (o : Option Breach). lesser o y) e ∙ ap (lesser (least bs)) f ∙ sym (least_of_both bs cs)
