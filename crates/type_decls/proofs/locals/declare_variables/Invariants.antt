use Rattle.std.proofs.Common.{◌≤◌, List, ◌++◌, length, drop, map}
use Rattle.std.specs.Prelude.{flat_map}
use Rattle.orca_syntax.specs.Shown.{variables}
use Rattle.link_rules.specs.Units.{Source}
use Rattle.type_rules.specs.Constants.{View}
use Rattle.type_rules.specs.Scopes as scopes
use Rattle.type_rules.specs.Declarations as rules
use Rattle.type_forms.specs.Finding.{FirstOf}
use Rattle.type_forms.specs.Forms.{AreTyped}
use Rattle.type_forms.specs.Views.{IsView}
use Rattle.type_decls.specs.Bodies.{AreLocals, variable_found}
use Rattle.type_decls.proofs.locals.declare_variables.Given as goal

abbrev pub invariant-groups : goal.invariant-groups
invariant-groups l = (l.left ≤ length l.groups)
    × ((us : List Source) → AreTyped us l.forms → (w : View) → IsView us l.view w → FirstOf l.first (rules.variables_breaches (variable_found l.objects w) (map variables (drop l.left l.groups))))
    × ((us : List Source) → AreTyped us l.forms → (w : View) → IsView us l.view w → (ls : List scopes.Local) → AreLocals l.initial.locals ls →
    AreLocals l.locals (flat_map (scopes.locals_of l.role (variable_found l.objects w)) (map variables (drop l.left l.groups)) ++ ls))

abbrev pub decreases-groups : goal.decreases-groups
decreases-groups l = l.left
