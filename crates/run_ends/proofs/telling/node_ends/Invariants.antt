use Rattle.run_ends.proofs.Books.{Ended}
use Rattle.run_ends.proofs.telling.node_ends.Given as goal

abbrev pub invariant-members : goal.invariant-members
invariant-members g l = Ended g.P.OneRun.stood g.P.OneRun.left g.P.OneRun.run.frame l.parts l.member l.ends.items
