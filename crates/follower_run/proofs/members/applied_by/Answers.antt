use Rattle.std.proofs.Common.{◌∙◌, ap, arith, is_some, sym}
use Rattle.std.specs.Option.{option_copied}
use Rattle.group_member.specs.declared.member.Member.{Member}
use Rattle.value_core.specs.declared.action.Reply.{Reply}
use Rattle.value_core.specs.declared.message.Message.{Message}
use Rattle.world_rules.specs.Frame.{group}
use Rattle.follower_run.proofs.Asking.{applied_long}
use Rattle.follower_run.proofs.members.applied_by.Goals as goal

pub returns-in-Some-clause-applied : goal.returns-in-Some-clause-applied
returns-in-Some-clause-applied g c = λ w led.
    c.applied.ensures ∙ ap (λ (s : Member Message Reply). s.applied) c.member.ensures ∙ sym (c.in-Some.ensures.stands w led).member.applied

pub returns-in-Some-clause-logged : goal.returns-in-Some-clause-logged
returns-in-Some-clause-logged g c = λ w led.
    c.applied.ensures ∙ ap (λ (s : Member Message Reply). s.applied) c.member.ensures
    ∙ sym (applied_long (group g.P.OneRun.run.frame) c.args.member _ (w.nodes c.args.member).member (c.in-Some.ensures.stands w led).member)

pub returns-in-Some-clause-small : goal.returns-in-Some-clause-small
returns-in-Some-clause-small g c =
    let stands = c.in-Some.ensures.stands c.is_replayed.ensures.0 c.is_replayed.ensures.1 in
    omega (arith, c.applied.ensures, ap (λ (s : Member Message Reply). s.applied) c.member.ensures, stands.member.member.small)

pub returns-in-None-clause-applied : goal.returns-in-None-clause-applied
returns-in-None-clause-applied g c = λ w led. absurd (cc (ap (λ o. is_some (option_copied o)) (sym c.in-None.is) ∙ c.node.ensures.some c.requires))

pub returns-in-None-clause-logged : goal.returns-in-None-clause-logged
returns-in-None-clause-logged g c = λ w led. absurd (cc (ap (λ o. is_some (option_copied o)) (sym c.in-None.is) ∙ c.node.ensures.some c.requires))
