use Rattle.std.proofs.Common.{◌≡◌, List, drop, map}
use Rattle.orca_syntax.specs.Shown.{typed_name}
use Rattle.link_rules.specs.Units.{Source}
use Rattle.type_rules.specs.Constants.{View}
use Rattle.type_rules.specs.Order.{least, lesser}
use Rattle.type_rules.specs.Declarations as rules
use Rattle.type_forms.specs.Forms.{AreTyped}
use Rattle.type_forms.specs.Views.{IsView}
use Rattle.type_decls.proofs.locals.values_breach.Given as goal

abbrev pub invariant-values : goal.invariant-values
invariant-values l = (us : List Source) → AreTyped us l.forms → (w : View) → IsView us l.view w →
    lesser l.first (least (rules.values_breaches w (map typed_name (drop l.value-index l.values)))) ≡ least (rules.values_breaches w (map typed_name l.values))
