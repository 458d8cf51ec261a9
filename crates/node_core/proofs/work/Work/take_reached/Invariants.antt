use Rattle.std.specs.Vec.Iter.{into_iter_items}
use Rattle.node_core.specs.Stands.{fitness_of}
use Rattle.node_core.proofs.Reaching.{TakesRest}
use Rattle.node_core.specs.Keeping.{KeepsTasks}
use Rattle.node_core.proofs.work.Work.take_reached.Given as goal

abbrev pub invariant-errands : goal.invariant-errands
invariant-errands g l =
    TakesRest g.P.OneRun.stood g.P.OneRun.left g.P.OneRun.run.frame
    (fitness_of (g.P.Performer.fits_state l.machine) (g.P.Performer.fits_args l.machine) (g.P.Performer.fits_text l.machine) (g.P.Performer.fits_reply l.machine))
    l.fn.self l.self (into_iter_items l.errand-iterator)
    × KeepsTasks l.fn.self.node l.self.node
