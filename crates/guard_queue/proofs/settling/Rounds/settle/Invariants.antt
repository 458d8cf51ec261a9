use Rattle.std.proofs.Common.{length}
use Rattle.guard_queue.specs.Rounds.{settling_of}
use Rattle.guard_queue.proofs.Rounds.{IsUnderWay}
use Rattle.guard_queue.proofs.settling.Rounds.settle.Given as goal

abbrev pub invariant-rounds : goal.invariant-rounds
invariant-rounds g l =
    IsUnderWay (g.P.Performer.fits_state l.performer) (g.P.Performer.fits_args l.performer) (g.P.Performer.performs l.performer)
    (settling_of l.initial.self) (settling_of l.self) l.ready l.on

abbrev pub decreases-rounds : goal.decreases-rounds
decreases-rounds g l = length l.self.queue
