use Rattle.run_loop.proofs.Choosing.{Found}
use Rattle.run_loop.proofs.order.chosen.Given as goal

-- what was found of the processes so far
abbrev pub invariant-processes : goal.invariant-processes
invariant-processes g l = Found g.P.OneRun.run.frame l.world l.found l.number
