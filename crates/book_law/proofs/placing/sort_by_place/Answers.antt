use Rattle.std.proofs.Common.{rules}
use Rattle.std.proofs.lemmas.Fn.{always_returns_same}
use Rattle.book_law.specs.declared.placing.Placed.{Placed}
use Rattle.book_law.proofs.placing.sort_by_place.Goals as goal
use Rattle.book_law.proofs.Sorting.{stable_book}

pub returns-clause-book : goal.returns-clause-book
returns-clause-book c = λ single p list aside h.
    stable_book single p list aside _ _ h (c.in_ok-sort_by_key.ensures.sorted (λ (r : Placed). r.place) (always_returns_same _ _ _ (λ a r q k. search rules)))
    (c.in_ok-sort_by_key.ensures.stable (λ (r : Placed). r.place) (always_returns_same _ _ _ (λ a r q k. search rules)))
