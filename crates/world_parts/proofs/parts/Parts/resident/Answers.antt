use Rattle.world_parts.proofs.Worlds.{home_there, played_there}
use Rattle.world_parts.proofs.parts.Parts.resident.Goals as goal

pub returns-in-Some : goal.returns-in-Some
returns-in-Some g c w is =
    played_there g.P.OneRun.stood g.P.OneRun.left g.P.OneRun.run.frame c.args.self.now w is c.home_of.result c.args.process.0 (c.home_of.ensures w is) c.in-Some.node.now (c.in-Some.ensures {u = tt}) _ c.resident.ensures

pub returns-in-None : goal.returns-in-None
returns-in-None g c w is =
    absurd (home_there g.P.OneRun.stood g.P.OneRun.left g.P.OneRun.run.frame c.args.self.now w c.requires is c.home_of.result c.args.process.0 (c.home_of.ensures w is) (c.in-None.ensures {u = tt}))
