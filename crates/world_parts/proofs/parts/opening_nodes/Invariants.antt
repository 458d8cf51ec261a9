use Rattle.world_parts.specs.Opening.{AreOpening}
use Rattle.world_parts.proofs.parts.opening_nodes.Given as goal

abbrev pub invariant-members : goal.invariant-members
invariant-members g l = AreOpening g.P.OneRun.stood g.P.OneRun.left g.P.OneRun.run.frame l.me l.nodes.items
