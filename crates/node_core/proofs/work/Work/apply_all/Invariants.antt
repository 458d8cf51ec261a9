use Rattle.std.proofs.Common.{◌-◌, ◌^◌}
use Rattle.node_core.specs.Stands.{fitness_of}
use Rattle.node_core.proofs.CatchingUp.{InRounds}
use Rattle.node_core.specs.Keeping.{KeepsTasks}
use Rattle.node_core.proofs.work.Work.apply_all.Given as goal

abbrev pub invariant-rounds : goal.invariant-rounds
invariant-rounds g l =
    InRounds g.P.OneRun.stood g.P.OneRun.left g.P.OneRun.run.frame (fitness_of (g.P.Performer.fits_state l.machine) (g.P.Performer.fits_args l.machine) (g.P.Performer.fits_text l.machine) (g.P.Performer.fits_reply l.machine)) l.fn.self l.self l.fn.messages.items l.messages.items
    × KeepsTasks l.fn.self.node l.self.node

abbrev pub decreases-rounds : goal.decreases-rounds
decreases-rounds g l = 2 ^ 62 - l.self.node.member.applied
