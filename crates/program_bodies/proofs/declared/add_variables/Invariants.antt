use Rattle.std.proofs.Common.{List, ◌++◌, map, take}
use Rattle.std.specs.Prelude.{flat_map}
use Rattle.orca_syntax.specs.Shown.{variables}
use Rattle.link_rules.specs.Units.{Source}
use Rattle.type_rules.specs.Constants.{View}
use Rattle.type_rules.specs.Scopes.{Local, locals_of}
use Rattle.type_forms.specs.Forms.{AreTyped}
use Rattle.type_forms.specs.Views.{IsView}
use Rattle.type_decls.specs.Bodies.{variable_found}
use Rattle.program_bodies.specs.Bodies.{HasLocals}
use Rattle.program_bodies.proofs.declared.add_variables.Given as goal

abbrev pub invariant-groups : goal.invariant-groups
invariant-groups l = (us : List Source) → AreTyped us l.forms → (w : View) → IsView us l.view w → (ls : List Local) → HasLocals l.initial.names ls →
    HasLocals l.names (ls ++ flat_map (locals_of l.role (variable_found l.objects w)) (map variables (take l.group-index l.groups)))
