use Rattle.node_core.proofs.Running.{InBurst}
use Rattle.node_core.proofs.task.compute.Given as goal

abbrev pub invariant-burst : goal.invariant-burst
invariant-burst g l =
    InBurst g.P.OneRun.stood g.P.OneRun.run.frame (record { process = l.process; start = l.start; calls = l.calls; view = l.view; budget = l.budget })
    l.last l.call l.state l.reads.items
