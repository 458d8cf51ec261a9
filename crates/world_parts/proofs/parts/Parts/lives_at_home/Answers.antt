use Rattle.std.proofs.Common.{◌∙◌}
use Rattle.world_parts.proofs.Worlds.{home_lives}
use Rattle.world_parts.proofs.parts.Parts.lives_at_home.Goals as goal

pub returns : goal.returns
returns g c w is = c.lives.ensures w is ∙ home_lives g.P.OneRun.stood g.P.OneRun.left g.P.OneRun.run.frame c.args.self.now w c.requires c.home_of.result c.args.process.0 (c.home_of.ensures w is)
