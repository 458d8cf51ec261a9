use Rattle.std.proofs.Common.{◌∙◌, ◌++◌, [], Bool, ap, sym, if◌then◌else◌}
use Rattle.std.proofs.lemmas.Bool.{lt-ltb}
use Rattle.book_law.specs.Performed.{placed}
use Rattle.world_parts.proofs.Keeping.{one_more}
use Rattle.world_parts.specs.Recorded.{of_pieces}
use Rattle.world_parts.specs.declared.ledger.Piece.TheVariants.{Lines}
use Rattle.world_core.proofs.draft.keep_entry.Goals as goal

pub returns-in_ok-push : goal.returns-in_ok-push
returns-in_ok-push c =
    ap of_pieces c.in_ok-push.ensures.items ∙ one_more c.args.pieces.now.items (Lines c.args.place c.args.lines)
    ∙ ap (λ (b : Bool). of_pieces c.args.pieces.now.items ++ (if b then placed c.args.place c.args.lines else [])) (sym (lt-ltb c.args.known c.args.place c.if-place-known.true))
