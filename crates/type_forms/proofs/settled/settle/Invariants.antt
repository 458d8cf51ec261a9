use Rattle.std.proofs.Common.{◌≡◌, length, List}
use Rattle.link_rules.specs.Units.{Source}
use Rattle.type_forms.specs.Settled.{AreSettled, IsKnown, open_count}
use Rattle.type_forms.proofs.settled.settle.Given as goal

abbrev pub invariant-passes : goal.invariant-passes
invariant-passes l =
    ((us : List Source) → IsKnown us l.known → AreSettled us l.initial.types.items l.initial.settled.items → AreSettled us l.types.items l.settled.items)
    × (length l.types.items ≡ length l.settled.items)

abbrev pub decreases-passes : goal.decreases-passes
decreases-passes l = open_count l.settled.items
