use Rattle.world_parts.proofs.Ruling.{queued_home}
use Rattle.world_parts.proofs.Worlds.{home_there}
use Rattle.world_parts.proofs.parts.Parts.is_suspended.Goals as goal

pub returns-in-Some : goal.returns-in-Some
returns-in-Some g c w is =
    queued_home g.P.OneRun.stood g.P.OneRun.left g.P.OneRun.run.frame c.args.self.now w is c.home_of.result c.args.process.0 c.in-Some.node.now _ (c.home_of.ensures w is) (c.in-Some.ensures {u = tt}) c.is_queued.ensures

pub returns-in-None : goal.returns-in-None
returns-in-None g c w is =
    absurd (home_there g.P.OneRun.stood g.P.OneRun.left g.P.OneRun.run.frame c.args.self.now w c.requires is c.home_of.result c.args.process.0 (c.home_of.ensures w is) (c.in-None.ensures {u = tt}))
