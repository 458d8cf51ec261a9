use Rattle.std.proofs.Common.{subst, sym}
use Rattle.value_core.specs.View.{datum_of}
use Rattle.value_ops.specs.Elements.{IsInOrder}
use Rattle.frame_variables.specs.Ordered.{IsOrdered}
use Rattle.frame_variables.proofs.Keeping.{delete_keeps}
use Rattle.frame_variables.proofs.halving.delete.Goals as goal

pub returns-then-in_order-clause-ordered : goal.returns-then-in_order-clause-ordered
returns-then-in_order-clause-ordered c t =
    let is = (c.in_ok-delete.ensures {u = tt}).left in
    subst IsOrdered (sym is) (delete_keeps (datum_of c.args.element.now) (datum_of c.args.all.now) (c.requires c.if-in_order.true) (subst IsInOrder is c.delete.ensures.in_order))
