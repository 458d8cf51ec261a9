use Rattle.std.proofs.Common.{◌≡◌}
use Rattle.follower_run.specs.Going.{GoesOn, MayGoOn, RunsTo}
use Rattle.follower_run.specs.Posts.{load}
use Rattle.follower_run.proofs.rounds.FollowerRounds.run_out.Given as goal

-- so many packets came
abbrev pub invariant-packets : goal.invariant-packets
invariant-packets g l =
    GoesOn g.P.OneRun.run.frame l.fn.world.steps (g.W.Wire.told l.fn.wire) l.fn.self (g.W.Wire.told l.wire) l.self (RunsTo g.P.OneRun.run.frame)
    × MayGoOn g.P.OneRun.run.frame l.fn.world.steps (g.W.Wire.told l.wire) l.self
    × (g.W.Wire.rule l.wire ≡ g.W.Wire.rule l.fn.wire)
    × (g.W.Wire.loaded l.wire ≡ g.W.Wire.loaded l.fn.wire)

-- what may come yet
abbrev pub decreases-packets : goal.decreases-packets
decreases-packets g l = load l.self.coming.items
