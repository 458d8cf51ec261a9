use Rattle.std.proofs.Common.{map, length}
use Rattle.std.specs.Vec.Iter.{into_iter_items}
use Rattle.run_ends.proofs.Books.{EndedTo}
use Rattle.run_ends.proofs.telling.ends_with.Given as goal

abbrev pub invariant-processes : goal.invariant-processes
invariant-processes g l = EndedTo g.P.OneRun.stood g.P.OneRun.left g.P.OneRun.run.frame l.parts l.process (length (map (λ v. v.items) l.fn.replies.items)) l.ends.items (map (λ v. v.items) (into_iter_items l.one-iterator))
