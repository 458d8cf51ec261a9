use Rattle.std.proofs.Common.{◌++◌, map, subst}
use Rattle.value_core.specs.Datum.{list_of}
use Rattle.value_core.specs.View.{datum_of}
use Rattle.frame_variables.specs.Ordered.{AllOrdered}
use Rattle.frame_variables.proofs.Keeping.{joined, lent_ordered}
use Rattle.frame_variables.proofs.frame.Frame.over.Goals as goal

pub invariant_of-result : goal.invariant_of-result
invariant_of-result c =
    let own = list_of c.args.own in
    let behind = map datum_of c.args.behind.now in (
      λ t. joined own behind (subst AllOrdered c.as_slice.ensures (c.are_ordered-in_order.ensures t)) (lent_ordered c.args.behind.now c.requires),
      c.new.ensures (own ++ behind),
    )
