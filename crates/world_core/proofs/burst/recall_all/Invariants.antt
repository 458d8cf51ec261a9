use Rattle.world_core.proofs.Recalls.{RecalledTo}
use Rattle.world_core.proofs.burst.recall_all.Given as goal

abbrev pub invariant-members : goal.invariant-members
invariant-members g l = RecalledTo g.P.OneRun.stood g.P.OneRun.left l.at l.fn.nodes.items l.nodes.items
