use Rattle.std.proofs.Common.{◌≡◌, List, map, take}
use Rattle.orca_syntax.specs.Shown.{parameter}
use Rattle.link_rules.specs.Units.{Source}
use Rattle.type_rules.specs.Constants.{View}
use Rattle.type_rules.specs.Scopes.{formal}
use Rattle.type_forms.specs.Forms.{AreTyped}
use Rattle.type_forms.specs.Views.{IsView}
use Rattle.type_tables.proofs.signatures.formals.Given as goal

abbrev pub invariant-parameters : goal.invariant-parameters
invariant-parameters l = (us : List Source) → AreTyped us l.forms → (w : View) → IsView us l.view w →
    l.formals.items ≡ map (formal w) (map parameter (take l.parameter-index l.parameters))
