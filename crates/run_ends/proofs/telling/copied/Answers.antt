use Rattle.std.proofs.Common.{◌+◌, ◌∙◌, ap, length, refl, arith}
use Rattle.std.proofs.lemmas.List.{take_all}
use Rattle.std.proofs.lemmas.Option.{slice_get_read}
use Rattle.world_parts.specs.Recorded.{of_pieces}
use Rattle.run_ends.proofs.Books.{pieces_next}
use Rattle.run_ends.proofs.telling.copied.Goals as goal

pub pieces-preserved : goal.pieces-preserved
pieces-preserved c =
    pieces_next c.args.pieces.now c.pieces.piece-index (c.pieces.piece-index + 1) c.piece-item.result c.pieces.performed.items c.copy_piece.new.performed.items (omega arith)
    (slice_get_read c.args.pieces.now (length c.args.pieces.now) c.pieces.piece-index c.piece-item.result refl c.pieces-test.true c.piece-item.is) (c.in_ok-copy_piece.ensures {u = tt}) c.pieces.invariant

pub returns : goal.returns
returns c = c.pieces.invariant ∙ ap of_pieces (take_all c.pieces.piece-index c.args.pieces.now (omega arith))
