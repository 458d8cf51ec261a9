use Rattle.std.proofs.Common.{◌∙◌, ap, arith}
use Rattle.value_core.specs.declared.action.Reply.{Reply}
use Rattle.value_core.specs.declared.message.Message.{Message}
use Rattle.group_member.specs.declared.member.Member.{Member}
use Rattle.world_parts.proofs.Worlds.{home_within}
use Rattle.world_core.proofs.Running.{applied_there}
use Rattle.world_core.proofs.events.applied_for.Goals as goal

pub member_of-node-requires-clause-within : goal.member_of-node-requires-clause-within
member_of-node-requires-clause-within g c =
    let w = c.requires.world in
    let low = home_within g.P.OneRun.stood g.P.OneRun.left g.P.OneRun.run.frame c.args.parts.now w c.requires c.args.process.0 in
    omega (arith, c.home_of-home.ensures w c.requires.is, low)

pub returns : goal.returns
returns g c w is =
    c.applied.ensures ∙ ap (λ (m : Member Message Reply). m.applied) c.member.ensures
    ∙ applied_there g.P.OneRun.stood g.P.OneRun.left g.P.OneRun.run.frame c.args.parts.now w c.home_of-home.result c.args.process.0 c.member_of-node.result.now is (c.home_of-home.ensures w is) c.member_of-node.ensures
