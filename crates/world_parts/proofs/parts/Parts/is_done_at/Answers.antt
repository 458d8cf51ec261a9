use Rattle.std.proofs.Common.{ap, sym, length}
use Rattle.world_parts.proofs.Ruling.{done_there, member_there}
use Rattle.world_parts.proofs.parts.Parts.is_done_at.Goals as goal

pub is_done-requires : goal.is_done-requires
is_done-requires g c = (c.requires.stands.is.nodes c.args.member c.in-Some.node.now (sym (c.in-Some.ensures {u = tt}))).member.member

pub returns-in-Some : goal.returns-in-Some
returns-in-Some g c w is =
    done_there g.P.OneRun.stood g.P.OneRun.left g.P.OneRun.run.frame c.args.self.now w is c.args.member c.in-Some.node.now _ _ (c.in-Some.ensures {u = tt}) (ap length c.entries.ensures) (λ f m v stands. c.is_done.ensures f m v stands)

pub returns-in-None : goal.returns-in-None
returns-in-None g c w is = absurd (member_there g.P.OneRun.stood g.P.OneRun.left g.P.OneRun.run.frame c.args.self.now w is c.args.member c.requires.within (c.in-None.ensures {u = tt}))
