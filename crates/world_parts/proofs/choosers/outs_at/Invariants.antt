use Rattle.world_parts.proofs.Outs.{Counted}
use Rattle.world_parts.proofs.choosers.outs_at.Given as goal

abbrev pub invariant-processes : goal.invariant-processes
invariant-processes g l = Counted l.node l.process l.tasks
