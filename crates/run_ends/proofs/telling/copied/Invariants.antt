use Rattle.std.proofs.Common.{◌≡◌, take}
use Rattle.world_parts.specs.Recorded.{of_pieces}
use Rattle.run_ends.proofs.telling.copied.Given as goal

abbrev pub invariant-pieces : goal.invariant-pieces
invariant-pieces l = l.performed.items ≡ of_pieces (take l.piece-index l.pieces)
