use Rattle.std.proofs.Common.{List, ◌++◌, map, take}
use Rattle.orca_syntax.specs.Shown.{parameter}
use Rattle.link_rules.specs.Units.{Source}
use Rattle.type_rules.specs.Constants.{View}
use Rattle.type_rules.specs.Scopes.{Local, parameter_local}
use Rattle.type_forms.specs.Forms.{AreTyped}
use Rattle.type_forms.specs.Views.{IsView}
use Rattle.program_bodies.specs.Bodies.{HasLocals}
use Rattle.program_bodies.proofs.declared.add_parameters.Given as goal

abbrev pub invariant-parameters : goal.invariant-parameters
invariant-parameters l = (us : List Source) → AreTyped us l.forms → (w : View) → IsView us l.view w → (ls : List Local) → HasLocals l.initial.names ls →
    HasLocals l.names (ls ++ map (parameter_local w) (map parameter (take l.own-index l.parameters)))
