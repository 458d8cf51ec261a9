use Rattle.world_rules.specs.Applying.{tries_reads}
use Rattle.node_core.specs.Pieces.{GoesOn}
use Rattle.node_core.specs.Stands.{fitness_of}
use Rattle.node_core.specs.Keeping.{KeepsTasks}
use Rattle.node_core.proofs.work.Work.try_reads.Given as goal

abbrev pub invariant-processes : goal.invariant-processes
invariant-processes g l =
    GoesOn g.P.OneRun.stood g.P.OneRun.left g.P.OneRun.run.frame
    (fitness_of (g.P.Performer.fits_state l.machine) (g.P.Performer.fits_args l.machine) (g.P.Performer.fits_text l.machine) (g.P.Performer.fits_reply l.machine))
    l.initial.self l.self (λ m. tries_reads g.P.OneRun.run.frame l.process)
    × KeepsTasks l.initial.self.node l.self.node
