use Rattle.std.proofs.Common.{◌≡◌, ◌++◌, map}
use Rattle.std.specs.Vec.Iter.{into_iter_items}
use Rattle.book_law.specs.declared.placing.Placed.{Placed}
use Rattle.run_ends.proofs.telling.lines_of.Given as goal

abbrev pub invariant-lines : goal.invariant-lines
invariant-lines l = l.lines.items ++ map (λ (r : Placed). r.line) (into_iter_items l.placed-iterator) ≡ map (λ (r : Placed). r.line) l.fn.performed.items
