use Rattle.world_parts.proofs.Worlds.{lives_past, lives_there}
use Rattle.world_parts.proofs.parts.Parts.lives.Goals as goal

pub returns-in-Some : goal.returns-in-Some
returns-in-Some g c w is =
    let h = (c.in-Some.ensures {u = tt}).lookup in
    lives_there g.P.OneRun.stood g.P.OneRun.left g.P.OneRun.run.frame c.args.self.now c.deref.result.now w is c.deref.ensures.value c.args.member c.in-Some.lives.now h.3.0 h.1

pub returns-in-None : goal.returns-in-None
returns-in-None g c w is =
    let h = (c.in-None.ensures {u = tt}).lookup in
    lives_past g.P.OneRun.stood g.P.OneRun.left g.P.OneRun.run.frame c.args.self.now c.deref.result.now w is c.deref.ensures.value c.args.member h.3
