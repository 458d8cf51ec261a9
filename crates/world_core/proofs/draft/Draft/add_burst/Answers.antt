use Rattle.std.proofs.Common.{◌∙◌, ◌++◌, List, ap}
use Rattle.book_law.specs.declared.placing.Placed.{Placed}
use Rattle.world_parts.proofs.Keeping.{one_more}
use Rattle.world_parts.specs.Recorded.{of_pieces}
use Rattle.world_core.proofs.draft.Draft.add_burst.Goals as goal

pub returns-clause-pieces : goal.returns-clause-pieces
returns-clause-pieces g c =
    ap of_pieces c.in_ok-push.ensures.items ∙ one_more c.args.self.now.pieces.items c.reads_of.result ∙ ap (λ (l : List Placed). of_pieces c.args.self.now.pieces.items ++ l) c.reads_of.ensures
