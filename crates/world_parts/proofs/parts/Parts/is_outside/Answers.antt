use Rattle.std.proofs.Common.{◌∙◌, ap}
use Rattle.group_member.specs.declared.member.Member.{Member}
use Rattle.value_core.specs.declared.action.Reply.{Reply}
use Rattle.value_core.specs.declared.message.Message.{Message}
use Rattle.world_parts.proofs.Ruling.{member_there, outside_there}
use Rattle.world_parts.proofs.parts.Parts.is_outside.Goals as goal

pub returns-in-Some : goal.returns-in-Some
returns-in-Some g c w is =
    c.is_outside.ensures ∙ ap (λ (m : Member Message Reply). m.outside) c.member.ensures ∙ outside_there g.P.OneRun.stood g.P.OneRun.left g.P.OneRun.run.frame c.args.self.now w is c.args.member c.in-Some.node.now (c.in-Some.ensures {u = tt})

pub returns-in-None : goal.returns-in-None
returns-in-None g c w is = absurd (member_there g.P.OneRun.stood g.P.OneRun.left g.P.OneRun.run.frame c.args.self.now w is c.args.member c.requires.within (c.in-None.ensures {u = tt}))
