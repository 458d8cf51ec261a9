use Rattle.std.proofs.Common.{List, sym, subst}
use Rattle.book_law.specs.declared.placing.Placed.{Placed}
use Rattle.run_ends.specs.Telling.{IsInOrder}
use Rattle.run_ends.proofs.placing.places.Goals as goal

pub notes_of-requires-clause-order : goal.notes_of-requires-clause-order
notes_of-requires-clause-order g c =
    subst (λ (l : List Placed). IsInOrder g.P.OneRun.stood g.P.OneRun.left g.P.OneRun.run.frame c.args.parts.now l) (sym c.as_slice.ensures.value) (c.in_ok-performed.ensures {u = tt})
