use Rattle.std.proofs.Common.{refl}
use Rattle.world_parts.proofs.Worlds.{is_world}
use Rattle.world_core.proofs.world.World.book.Goals as goal

pub returns-clause-book : goal.returns-clause-book
returns-clause-book g c w replays = c.book.ensures w (is_world g.P.OneRun.stood g.P.OneRun.left g.P.OneRun.run.frame c.self.inside.parts c.args.self.now c.self.view_is c.self.invariant w replays)

pub returns-clause-kept : goal.returns-clause-kept
returns-clause-kept g c w replays = c.self.invariant.laws.kept g.P.OneRun.run.frame refl refl c.self.invariant.settings c.args.self.now.steps w replays
