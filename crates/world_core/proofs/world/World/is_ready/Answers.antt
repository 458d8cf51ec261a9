use Rattle.std.proofs.Common.{◌≡◌, subst}
use Rattle.world_parts.proofs.Worlds.{is_world}
use Rattle.world_core.proofs.world.World.is_ready.Goals as goal
use Rattle.world_parts.specs.Choosing.{is_ready}
use Rattle.world_parts.specs.Seen.{Seen}

pub returns : goal.returns
returns g c w replays =
    subst (λ (v : Seen g.row.P-State.Denot). c.is_ready.result ≡ is_ready g.P.OneRun.run.frame v w c.args.process.0) c.self.view_is
    (c.is_ready.ensures w (is_world g.P.OneRun.stood g.P.OneRun.left g.P.OneRun.run.frame c.self.inside.parts c.args.self.now c.self.view_is c.self.invariant w replays))
