use Rattle.std.specs.Vec.Iter.{into_iter_items}
use Rattle.world_core.proofs.Storing.{DoneTo}
use Rattle.world_core.proofs.step.keep_pieces.Given as goal

abbrev pub invariant-pieces : goal.invariant-pieces
invariant-pieces l = DoneTo l.fn.pieces.items (into_iter_items l.piece-iterator) l.fn.ledger l.ledger
