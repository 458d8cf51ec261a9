use Rattle.std.proofs.Common.{◌≡◌, List, [], drop, map}
use Rattle.std.specs.Prelude.{flat_map}
use Rattle.orca_syntax.specs.Shown.{head}
use Rattle.link_rules.specs.Units.{Source}
use Rattle.type_rules.specs.Order.{least, lesser}
use Rattle.type_rules.specs.Declarations as rules
use Rattle.type_decls.specs.Contexts.{IsContext}
use Rattle.type_decls.proofs.specifications.all_free.Given as goal

abbrev pub invariant-heads : goal.invariant-heads
invariant-heads l = (us : List Source) → IsContext us l.context →
    lesser l.first (least (flat_map (λ h. rules.are_free us l.home [] (map (λ t. t.name) h.parameters)) (map head (drop l.head-index l.heads))))
    ≡ least (flat_map (λ h. rules.are_free us l.home [] (map (λ t. t.name) h.parameters)) (map head l.heads))
