use Rattle.std.proofs.Common.{◌≡◌, List, ◌++◌, drop, map}
use Rattle.std.specs.Prelude.{flat_map}
use Rattle.orca_syntax.specs.Shown.{head}
use Rattle.link_rules.specs.Units.{Source}
use Rattle.type_rules.specs.Order.{least, lesser}
use Rattle.type_rules.specs.Scopes.{head_view}
use Rattle.type_rules.specs.Declarations as rules
use Rattle.type_forms.specs.Forms.{AreTyped}
use Rattle.type_decls.proofs.specifications.all_types.Given as goal

abbrev pub invariant-heads : goal.invariant-heads
invariant-heads l = (us : List Source) → AreTyped us l.forms →
    lesser l.first (least (flat_map (λ h. rules.values_breaches (head_view us l.home h) h.parameters ++ rules.result_breaches (head_view us l.home h) h.result)
    (map head (drop l.head-index l.heads))))
    ≡ least (flat_map (λ h. rules.values_breaches (head_view us l.home h) h.parameters ++ rules.result_breaches (head_view us l.home h) h.result) (map head l.heads))
