use Rattle.std.proofs.Common.{◌∙◌}
use Rattle.world_parts.proofs.Worlds.{first_due}
use Rattle.world_parts.proofs.parts.Parts.due_packet.Goals as goal

pub returns : goal.returns
returns g c w is = c.first_ready.ensures.first ∙ first_due g.P.OneRun.stood g.P.OneRun.left g.P.OneRun.run.frame c.args.self.now w is
