use Rattle.std.proofs.Common.{List, ◌∙◌, refl, subst}
use Rattle.std.specs.List.Sorted.{IsPermutation}
use Rattle.book_law.specs.declared.placing.Placed.{Placed}
use Rattle.run_ends.proofs.Books.{book_is}
use Rattle.run_ends.proofs.telling.in_order.Goals as goal

pub returns : goal.returns
returns g c =
    let sorted : List Placed = c.sort_by_place.new.performed.items in
    let all = c.in_ok-performed.ensures {u = tt} ∙ c.pieces.ensures in
    record {
      same = subst (λ (l : List Placed). IsPermutation l sorted) all c.sort_by_place.ensures.same;
      lines = λ w is. book_is g.P.OneRun.stood g.P.OneRun.left g.P.OneRun.run.frame c.args.parts.now w c.in_ok-performed.performed.items sorted _ is all c.in_ok-sort_by_place.ensures.book refl;
    }
