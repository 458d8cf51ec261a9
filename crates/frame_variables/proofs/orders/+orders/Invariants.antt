use Rattle.std.proofs.Common.{◌+◌, ◌*◌, drop, map}
use Rattle.value_core.specs.View.{datum_of}
use Rattle.frame_variables.specs.Ordered.{AllOrdered}
use Rattle.frame_variables.proofs.orders.+orders.Given as goal

-- all are in order where what is left is
abbrev pub invariant-are_ordered_within-values : goal.invariant-are_ordered_within-values
invariant-are_ordered_within-values l = AllOrdered (map datum_of (drop l.value-index l.values)) → AllOrdered (map datum_of l.values)

abbrev pub decreases-is_ordered_within : goal.decreases-is_ordered_within
decreases-is_ordered_within l = 2 * l.levels

abbrev pub decreases-are_ordered_within : goal.decreases-are_ordered_within
decreases-are_ordered_within l = 2 * l.levels + 1
