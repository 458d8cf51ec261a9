use Rattle.std.proofs.Common.{◌-◌}
use Rattle.node_core.specs.Stands.{fitness_of}
use Rattle.node_core.proofs.CatchingUp.{SoFar}
use Rattle.node_core.specs.Keeping.{KeepsTasks}
use Rattle.node_core.proofs.work.Work.apply_due.Given as goal

abbrev pub invariant-entries : goal.invariant-entries
invariant-entries g l =
    SoFar g.P.OneRun.stood g.P.OneRun.left g.P.OneRun.run.frame (fitness_of (g.P.Performer.fits_state l.machine) (g.P.Performer.fits_args l.machine) (g.P.Performer.fits_text l.machine) (g.P.Performer.fits_reply l.machine)) l.initial.self l.self l.initial.messages.items l.messages.items
    × KeepsTasks l.initial.self.node l.self.node

abbrev pub decreases-entries : goal.decreases-entries
decreases-entries g l = l.self.node.member.accepted - l.self.node.copies.applied
