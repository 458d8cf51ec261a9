use Rattle.std.proofs.Common.{◌≡◌, ◌≤◌, List, length, drop, map}
use Rattle.orca_syntax.specs.Shown.{typed_name}
use Rattle.link_rules.specs.Units.{Source}
use Rattle.type_rules.specs.Constants.{View}
use Rattle.type_rules.specs.Declarations as rules
use Rattle.type_forms.specs.Forms.{AreTyped}
use Rattle.type_forms.specs.Views.{IsView}
use Rattle.type_decls.proofs.heads.same_parameters.Given as goal

abbrev pub invariant-parameters : goal.invariant-parameters
invariant-parameters l = (l.left ≤ length l.one) × (length l.one ≡ length l.other)
    × ((us : List Source) → AreTyped us l.forms → (v w : View) → IsView us l.ours v → IsView us l.theirs w →
    l.same ≡ rules.same_parameters v w (map typed_name (drop l.left l.one)) (map typed_name (drop l.left l.other)))

abbrev pub decreases-parameters : goal.decreases-parameters
decreases-parameters l = l.left
