use Rattle.std.proofs.Common.{◌≡◌, length, List}
use Rattle.link_rules.specs.Units.{Source}
use Rattle.type_forms.specs.Settled.{AreSettled, IsKnown}
use Rattle.type_forms.proofs.settled.settle_these.Given as goal

abbrev pub invariant-numbers : goal.invariant-numbers
invariant-numbers l =
    ((us : List Source) → IsKnown us l.known → AreSettled us l.initial.types.items l.initial.settled.items → AreSettled us l.types.items l.settled.items)
    × (length l.types.items ≡ length l.settled.items)
    × (length l.settled.items ≡ length l.initial.settled.items)
