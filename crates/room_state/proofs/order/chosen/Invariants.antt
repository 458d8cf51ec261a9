use Rattle.room_state.proofs.Choosing.{Found}
use Rattle.room_state.proofs.order.chosen.Given as goal

-- what was found of the processes so far
abbrev pub invariant-processes : goal.invariant-processes
invariant-processes g l = Found g.P.OneRun.run.frame l.world l.tasks.counts.items l.home l.found l.number
