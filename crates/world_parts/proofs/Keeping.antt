-- What is kept of a run, with more behind it.
use Rattle.std.proofs.Common.{◌≡◌, ◌++◌, ◌∷◌, [], ◌∙◌, List, ap, sym}
use Rattle.std.proofs.lemmas.List.{append-nil, append_assoc}
use Rattle.book_law.specs.declared.placing.Placed.{Placed}
use Rattle.world_parts.specs.Recorded.{of_piece, of_pieces}
use Rattle.world_parts.specs.declared.ledger.Piece.{Piece}

-- one piece more is performed behind the others
pub one_more : (pieces : List Piece) (piece : Piece) → of_pieces (pieces ++ piece ∷ []) ≡ of_pieces pieces ++ of_piece piece
one_more [] piece = append-nil (of_piece piece)
one_more (first ∷ pieces) piece =
    ap (λ (l : List Placed). of_piece first ++ l) (one_more pieces piece) ∙ sym (append_assoc (of_piece first) (of_pieces pieces) (of_piece piece))
