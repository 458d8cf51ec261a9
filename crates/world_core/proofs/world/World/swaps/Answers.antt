use Rattle.world_parts.proofs.Worlds.{is_world}
use Rattle.world_core.proofs.world.World.swaps.Goals as goal

pub returns : goal.returns
returns g c w replays = (is_world g.P.OneRun.stood g.P.OneRun.left g.P.OneRun.run.frame c.self.inside.parts c.args.self.now c.self.view_is c.self.invariant w replays).swaps
