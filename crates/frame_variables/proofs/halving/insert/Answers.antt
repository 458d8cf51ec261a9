use Rattle.std.proofs.Common.{subst, sym}
use Rattle.value_core.specs.View.{datum_of}
use Rattle.value_ops.specs.Elements.{IsInOrder}
use Rattle.frame_variables.specs.Ordered.{IsOrdered}
use Rattle.frame_variables.proofs.Keeping.{insert_keeps}
use Rattle.frame_variables.proofs.halving.insert.Goals as goal

pub returns-then-in_order-clause-ordered : goal.returns-then-in_order-clause-ordered
returns-then-in_order-clause-ordered c t =
    let is = (c.in_ok-insert.ensures {u = tt}).ok in
    subst IsOrdered (sym is)
    (insert_keeps (datum_of c.args.element) (datum_of c.args.all.now) (c.is_ordered-ordered.ensures t) (c.requires c.if-in_order.true) (subst IsInOrder is c.insert.ensures.in_order))
