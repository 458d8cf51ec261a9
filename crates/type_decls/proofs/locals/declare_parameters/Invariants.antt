use Rattle.std.proofs.Common.{◌≤◌, List, ◌++◌, length, drop, map}
use Rattle.orca_syntax.specs.Shown.{parameter}
use Rattle.link_rules.specs.Units.{Source}
use Rattle.type_rules.specs.Constants.{View}
use Rattle.type_rules.specs.Scopes as scopes
use Rattle.type_rules.specs.Declarations as rules
use Rattle.type_forms.specs.Finding.{FirstOf}
use Rattle.type_forms.specs.Forms.{AreTyped}
use Rattle.type_forms.specs.Views.{IsView}
use Rattle.type_decls.specs.Bodies.{AreLocals}
use Rattle.type_decls.proofs.locals.declare_parameters.Given as goal

abbrev pub invariant-parameters : goal.invariant-parameters
invariant-parameters l = (l.left ≤ length l.parameters)
    × ((us : List Source) → AreTyped us l.forms → (w : View) → IsView us l.view w → FirstOf l.first (rules.parameters_breaches w (map parameter (drop l.left l.parameters))))
    × ((us : List Source) → AreTyped us l.forms → (w : View) → IsView us l.view w → (ls : List scopes.Local) → AreLocals l.initial.locals ls →
    AreLocals l.locals (map (scopes.parameter_local w) (map parameter (drop l.left l.parameters)) ++ ls))

abbrev pub decreases-parameters : goal.decreases-parameters
decreases-parameters l = l.left
