use Rattle.std.proofs.Common.{◌-◌, ◌+◌, List, length}
use Rattle.value_core.specs.Datum.{Datum}
use Rattle.frame_variables.specs.Bounded.{AreWithin}
use Rattle.frame_variables.proofs.bounds.reach.Given as goal

abbrev pub invariant-places : goal.invariant-places
invariant-places l = (values : List Datum) → AreWithin l.initial.known.items values → AreWithin l.known.items values

abbrev pub decreases-places : goal.decreases-places
decreases-places l = l.slot + 1 - length l.known.items
