use Rattle.std.proofs.Common.{subst}
use Rattle.value_core.specs.View.{datum_of}
use Rattle.frame_variables.specs.Ordered.{AllOrdered}
use Rattle.frame_variables.proofs.Keeping.{ordered_by}
use Rattle.frame_variables.proofs.orders.+orders.Goals as goal

pub is_ordered_within-returns-then-is_in_order : goal.is_ordered_within-returns-then-is_in_order
is_ordered_within-returns-then-is_in_order t c all =
    ordered_by (datum_of c.args.value.now) (c.is_in_order.ensures c.if-is_in_order.true) (subst AllOrdered c.parts_of.ensures (c.are_ordered_within.ensures all))
