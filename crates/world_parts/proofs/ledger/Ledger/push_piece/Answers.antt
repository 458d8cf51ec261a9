use Rattle.std.proofs.Common.{◌∙◌, ap, arith, length, length-append}
use Rattle.world_parts.specs.Recorded.{Recorded, of_piece, of_pieces}
use Rattle.world_parts.proofs.Keeping.{one_more}
use Rattle.world_parts.proofs.ledger.Ledger.push_piece.Goals as goal

pub invariant_of-self : goal.invariant_of-self
invariant_of-self c =
    let inv = c.self.invariant in
    let more = ap length (ap of_pieces c.push_reserved.ensures.items ∙ one_more c.self.inside.pieces.items c.args.piece) in
    let count = length-append (of_pieces c.self.inside.pieces.items) (of_piece c.args.piece) in
    let room = ap (λ (r : Recorded). r.piece_room) c.self.view_is in (
      inv.0,
      inv.1,
      omega (arith, c.push_reserved.ensures.len, c.push_reserved.ensures.capacity, inv.2, c.requires, room),
      omega (arith, inv.3, c.saturating_add-self-inside.ensures, c.len.ensures, more, count),
    )
