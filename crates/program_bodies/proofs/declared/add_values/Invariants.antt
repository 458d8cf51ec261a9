use Rattle.std.proofs.Common.{List, ◌++◌, map, take}
use Rattle.orca_syntax.specs.Shown.{typed_name}
use Rattle.link_rules.specs.Units.{Source}
use Rattle.type_rules.specs.Constants.{View}
use Rattle.type_rules.specs.Scopes.{Local, value_local}
use Rattle.type_forms.specs.Forms.{AreTyped}
use Rattle.type_forms.specs.Views.{IsView}
use Rattle.program_bodies.specs.Bodies.{HasLocals}
use Rattle.program_bodies.proofs.declared.add_values.Given as goal

abbrev pub invariant-values : goal.invariant-values
invariant-values l = (us : List Source) → AreTyped us l.forms → (w : View) → IsView us l.view w → (ls : List Local) → HasLocals l.initial.names ls →
    HasLocals l.names (ls ++ map (value_local w) (map typed_name (take l.own-index l.values)))
