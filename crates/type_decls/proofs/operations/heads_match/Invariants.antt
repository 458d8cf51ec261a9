use Rattle.std.proofs.Common.{◌≤◌, List, length, drop, map}
use Rattle.orca_syntax.specs.Shown.{head, operation}
use Rattle.orca_syntax.specs.Syntax.{Variables}
use Rattle.link_rules.specs.Units.{Source}
use Rattle.type_rules.specs.Scopes.{texts}
use Rattle.type_rules.specs.Declarations as rules
use Rattle.type_forms.specs.Finding.{FirstOf}
use Rattle.type_forms.specs.Forms.{AreTyped}
use Rattle.type_decls.specs.Bodies.{AreNames}
use Rattle.type_decls.proofs.operations.heads_match.Given as goal

abbrev pub invariant-operations : goal.invariant-operations
invariant-operations l = (l.left ≤ length l.operations)
    × ((us : List Source) → AreTyped us l.forms → (fs : List Variables) → AreNames l.fields (texts (rules.field_names fs)) →
    AreNames l.initial.names (texts (rules.field_names fs)) → FirstOf l.first
    (rules.heads_match us l.home fs l.specified.home.now (drop l.left (map head l.specified.heads.now)) (map operation (drop l.left l.operations))))
    × ((fs : List Variables) → AreNames l.fields (texts (rules.field_names fs)) → AreNames l.initial.names (texts (rules.field_names fs)) →
    AreNames l.names (texts (rules.field_names fs)))

abbrev pub decreases-operations : goal.decreases-operations
decreases-operations l = l.left
