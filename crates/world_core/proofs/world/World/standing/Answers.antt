use Rattle.world_parts.proofs.Worlds.{is_world}
use Rattle.world_core.proofs.world.World.standing.Goals as goal
use Rattle.std.proofs.Common.{refl}

pub returns-clause-standing : goal.returns-clause-standing
returns-clause-standing g c w replays = c.standing.ensures w (is_world g.P.OneRun.stood g.P.OneRun.left g.P.OneRun.run.frame c.self.inside.parts c.args.self.now c.self.view_is c.self.invariant w replays)

pub returns-clause-stuck : goal.returns-clause-stuck
returns-clause-stuck g c w replays =
    c.self.invariant.laws.stuck g.P.OneRun.run.frame refl refl c.self.invariant.settings c.args.self.now.steps w replays
