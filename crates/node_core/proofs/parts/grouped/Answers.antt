use Rattle.std.proofs.Common.{subst, sym}
use Rattle.std.proofs.lemmas.Result.{IfOk-weaker}
use Rattle.node_core.specs.Events.{MayBeTaken, TakesGrouped}
use Rattle.node_core.proofs.Delivering.{Wire, may_hear, may_join, plain_else, taken_from, taken_invite, taken_join, taken_member, taken_plain, taken_result}
use Rattle.node_core.proofs.parts.grouped.Goals as goal

pub invited-requires : goal.invited-requires
invited-requires c = taken_member c.args.from c.args.packet c.args.member.now c.requires

pub joined-requires-clause-from : goal.joined-requires-clause-from
joined-requires-clause-from c = taken_from c.args.from c.args.packet c.args.member.now c.requires

pub joined-requires-clause-can : goal.joined-requires-clause-can
joined-requires-clause-can c =
    may_join c.args.from c.in-Join.join c.args.member.now
    (subst (λ (p : Wire). MayBeTaken c.args.from p c.args.member.now) c.in-Join.is c.requires)

pub announced-requires : goal.announced-requires
announced-requires c =
    may_hear c.args.from c.in-Result.news c.args.member.now
    (subst (λ (p : Wire). MayBeTaken c.args.from p c.args.member.now) c.in-Result.is c.requires)

pub receive-requires : goal.receive-requires
receive-requires c = taken_member c.args.from c.args.packet c.args.member.now c.requires

pub returns-in-Invite : goal.returns-in-Invite
returns-in-Invite c =
    IfOk-weaker c.invited.result _ _
    (λ sends row. subst (λ (p : Wire). TakesGrouped c.args.from p c.args.member.now c.invited.new.member sends.items) (sym c.in-Invite.is)
    (taken_invite c.args.from c.in-Invite.incarnation c.args.member.now c.invited.new.member sends.items row))
    c.invited.ensures.row

pub returns-in_ok-joined-in-Join : goal.returns-in_ok-joined-in-Join
returns-in_ok-joined-in-Join c =
    subst (λ (p : Wire). TakesGrouped c.args.from p c.args.member.now c.joined.new.member c.in_ok-joined-in-Join.field-0.1.items) (sym c.in-Join.is)
    (taken_join c.args.from c.in-Join.join c.args.member.now c.joined.new.member c.in_ok-joined-in-Join.field-0.1.items ((c.in_ok-joined-in-Join.ensures {u = tt}).row))

pub returns-in-Result : goal.returns-in-Result
returns-in-Result c =
    IfOk-weaker c.announced.result _ _
    (λ sends row. subst (λ (p : Wire). TakesGrouped c.args.from p c.args.member.now c.announced.new.member sends.items) (sym c.in-Result.is)
    (taken_result c.args.from c.in-Result.news c.args.member.now c.announced.new.member sends.items row))
    c.announced.ensures.row

pub returns-in_default : goal.returns-in_default
returns-in_default c =
    IfOk-weaker c.receive.result _ _
    (λ sends row. taken_plain c.args.from c.args.packet c.args.member.now c.receive.new.self sends.items
    (plain_else c.args.packet c.in_default.not-Invite c.in_default.not-Join c.in_default.not-Result) row)
    c.receive.ensures.row
