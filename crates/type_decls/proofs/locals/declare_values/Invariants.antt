use Rattle.std.proofs.Common.{◌≤◌, List, ◌++◌, length, drop, map}
use Rattle.orca_syntax.specs.Shown.{typed_name}
use Rattle.link_rules.specs.Units.{Source}
use Rattle.type_rules.specs.Constants.{View}
use Rattle.type_rules.specs.Scopes as scopes
use Rattle.type_rules.specs.Declarations as rules
use Rattle.type_forms.specs.Finding.{FirstOf}
use Rattle.type_forms.specs.Forms.{AreTyped}
use Rattle.type_forms.specs.Views.{IsView}
use Rattle.type_decls.specs.Bodies.{AreLocals}
use Rattle.type_decls.proofs.locals.declare_values.Given as goal

abbrev pub invariant-values : goal.invariant-values
invariant-values l = (l.left ≤ length l.values)
    × ((us : List Source) → AreTyped us l.forms → (w : View) → IsView us l.view w → FirstOf l.first (rules.values_breaches w (map typed_name (drop l.left l.values))))
    × ((us : List Source) → AreTyped us l.forms → (w : View) → IsView us l.view w → (ls : List scopes.Local) → AreLocals l.initial.locals ls →
    AreLocals l.locals (map (scopes.value_local w) (map typed_name (drop l.left l.values)) ++ ls))

abbrev pub decreases-values : goal.decreases-values
decreases-values l = l.left
