use Rattle.world_parts.proofs.Outs.{CountedAll}
use Rattle.world_parts.proofs.parts.Parts.tasks_out.Given as goal

abbrev pub invariant-members : goal.invariant-members
invariant-members g l = CountedAll l.self.nodes.items l.member l.tasks
