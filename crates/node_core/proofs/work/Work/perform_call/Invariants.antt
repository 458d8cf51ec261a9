use Rattle.std.specs.Vec.Iter.{into_iter_items}
use Rattle.node_core.proofs.Calling.{HandsRest}
use Rattle.node_core.specs.Keeping.{KeepsTasks}
use Rattle.node_core.proofs.work.Work.perform_call.Given as goal

abbrev pub invariant-lines : goal.invariant-lines
invariant-lines g l =
    HandsRest g.P.OneRun.stood g.P.OneRun.left g.P.OneRun.run.frame (g.P.Performer.fits_reply l.machine) l.message l.fn.self l.self (into_iter_items l.one-iterator)
    × KeepsTasks l.fn.self.node l.self.node
