use Rattle.std.proofs.Common.{◌≡◌, ℕ, ◌<◌, ◌≤◌, List, length, true, false}
use Rattle.link_rules.specs.Units.{Source}
use Rattle.type_forms.specs.Settled.{AreSettled, IsKnown, IsOpen, open_count}
use Rattle.type_forms.proofs.settled.settle_all.Given as goal

abbrev pub invariant-numbers : goal.invariant-numbers
invariant-numbers l =
    ((us : List Source) → IsKnown us l.known → AreSettled us l.initial.types.items l.initial.settled.items → AreSettled us l.types.items l.settled.items)
    × (length l.types.items ≡ length l.settled.items)
    × (length l.settled.items ≡ length l.initial.settled.items)
    × (open_count l.settled.items ≤ open_count l.initial.settled.items)
    × (l.more ≡ true → open_count l.settled.items < open_count l.initial.settled.items)
    × ((us : List Source) → IsKnown us l.known → l.more ≡ false → (i : ℕ) → i < l.number → i < length l.settled.items → IsOpen us l.settled.items i)
