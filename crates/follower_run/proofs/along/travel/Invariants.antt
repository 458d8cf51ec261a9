use Rattle.std.proofs.Common.{◌≡◌, ◌*◌, ◌+◌, ℕ}
use Rattle.follower_run.proofs.Travelling.{Behind}
use Rattle.follower_run.proofs.along.travel.Given as goal

-- behind the run, after so many rounds
abbrev pub invariant-behind : goal.invariant-behind
invariant-behind g l =
    ((done : ℕ) × (done + l.left ≡ 2 * l.last + 64)
    × Behind g.P.OneRun.run.frame l.fn.start (g.W.Wire.told l.fn.own) (g.W.Wire.told l.own) l.stepper.world.steps l.rounds l.member done)
    × (g.W.Wire.rule l.own ≡ g.W.Wire.rule l.fn.own)
    × (g.W.Wire.loaded l.own ≡ g.W.Wire.loaded l.fn.own)

abbrev pub decreases-behind : goal.decreases-behind
decreases-behind g l = l.left
