use Rattle.std.proofs.Common.{◌≡◌, ◌++◌}
use Rattle.std.specs.Vec.Iter.{into_iter_items}
use Rattle.world_parts.specs.Recorded.{of_pieces}
use Rattle.world_core.proofs.draft.keep_aside.Given as goal

abbrev pub invariant-aside : goal.invariant-aside
invariant-aside l = of_pieces l.pieces.items ++ into_iter_items l.placed-iterator ≡ of_pieces l.fn.pieces.items ++ l.fn.aside.items
