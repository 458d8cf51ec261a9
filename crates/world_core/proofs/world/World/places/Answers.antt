use Rattle.std.proofs.Common.{refl}
use Rattle.world_parts.proofs.Worlds.{is_world}
use Rattle.world_core.proofs.world.World.places.Goals as goal

pub returns-clause-places : goal.returns-clause-places
returns-clause-places g c w replays = c.places.ensures w (is_world g.P.OneRun.stood g.P.OneRun.left g.P.OneRun.run.frame c.self.inside.parts c.args.self.now c.self.view_is c.self.invariant w replays)

pub returns-clause-its : goal.returns-clause-its
returns-clause-its g c w replays = c.self.invariant.laws.places g.P.OneRun.run.frame refl refl c.self.invariant.settings c.args.self.now.steps w replays
