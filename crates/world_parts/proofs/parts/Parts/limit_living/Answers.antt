use Rattle.std.proofs.Common.{sym, refl}
use Rattle.world_parts.proofs.Ruling.{member_there}
use Rattle.world_parts.proofs.parts.Parts.limit_living.Goals as goal

pub returns-in-Some : goal.returns-in-Some
returns-in-Some g c w is lives =
    let f = g.P.OneRun.run.frame in
    c.limit_at.ensures f c.args.member (w.nodes c.args.member) (is.nodes c.args.member c.in-Some.node.now (sym (c.in-Some.ensures {u = tt})))
    (c.requires.stands.laws.stops f refl refl c.requires.stands.settings c.args.self.now.ledger.steps w is.replays c.args.member c.requires.within lives)

pub returns-in-None : goal.returns-in-None
returns-in-None g c w is lives = absurd (member_there g.P.OneRun.stood g.P.OneRun.left g.P.OneRun.run.frame c.args.self.now w is c.args.member c.requires.within (c.in-None.ensures {u = tt}))
