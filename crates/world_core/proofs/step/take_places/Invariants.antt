use Rattle.std.specs.Vec.Iter.{into_iter_items}
use Rattle.world_core.proofs.Storing.{TakenTo}
use Rattle.world_core.proofs.step.take_places.Given as goal

abbrev pub invariant-members : goal.invariant-members
invariant-members g l = TakenTo l.fn.members.items (into_iter_items l.part-iterator) l.fn.nodes.items l.nodes.items
