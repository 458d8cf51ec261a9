use Rattle.std.proofs.Common.{◌≡◌, ◌-◌, ◌+◌, ℕ, None, length, slice_index_or}
use Rattle.node_core.proofs.places.reach.Given as goal

abbrev pub invariant-places : goal.invariant-places
invariant-places g l = (i : ℕ) → slice_index_or l.list.items i None ≡ slice_index_or l.initial.list.items i None

abbrev pub decreases-places : goal.decreases-places
decreases-places g l = l.place + 1 - length l.list.items
