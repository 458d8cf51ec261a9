use Rattle.std.proofs.Common.{◌≡◌, ◌∙◌, arith, refl, rules, sym}
use Rattle.group_join.specs.declared.packet.JoinPacket.TheVariants.{Seek}
use Rattle.follower_run.specs.Going.{Reaches}
use Rattle.follower_run.specs.Posts.{led_to}
use Rattle.follower_run.proofs.Coming.{replies_left, replies_none, replies_some, stays_left}
use Rattle.follower_run.proofs.Loading.{light}
use Rattle.follower_run.proofs.Results.{err_as, ok_as, on_err}
use Rattle.follower_run.proofs.rounds.FollowerRounds.reply.Goals as goal

pub send-requires : goal.send-requires
send-requires g c = search rules

pub returns-in_default-clause-next : goal.returns-in_default-clause-next
returns-in_default-clause-next g c =
    replies_none g.P.OneRun.run.frame c.args.world.now.steps (g.W.Wire.told c.args.wire.now) c.args.self.now c.args.member c.args.applied
    (λ w led. sym (c.in_ok-packet.ensures.answer w led) ∙ c.in_default.is)

pub returns-in_err-packet-clause-left : goal.returns-in_err-packet-clause-left
returns-in_err-packet-clause-left g c =
    on_err c.from_residual.result _ (stays_left g.P.OneRun.run.frame c.args.world.now.steps (Reaches g.P.OneRun.run.frame c.args.member (Seek c.args.applied)) (g.W.Wire.told c.args.wire.now) c.args.self.now c.args.self.now refl refl)

pub returns-clause-next : goal.returns-clause-next
returns-clause-next g c =
    ok_as c.send.result
    (λ sent. replies_some g.P.OneRun.run.frame c.args.world.now.steps (g.W.Wire.told c.args.wire.now) (g.W.Wire.told c.send.new.wire) c.args.self.now c.send.new.self c.args.member c.args.applied c.in-Some.packet
    (λ w led. sym (c.in_ok-packet.ensures.answer w led) ∙ c.in-Some.is) sent)
    c.send.ensures.sent

pub returns-clause-left : goal.returns-clause-left
returns-clause-left g c =
    err_as c.send.result
    (λ sent. replies_left g.P.OneRun.run.frame c.args.world.now.steps (g.W.Wire.told c.args.wire.now) (g.W.Wire.told c.send.new.wire) c.args.self.now c.send.new.self c.args.member c.args.applied c.in-Some.packet
    (λ w led. sym (c.in_ok-packet.ensures.answer w led) ∙ c.in-Some.is) sent)
    c.send.ensures.left

pub returns-clause-load : goal.returns-clause-load
returns-clause-load g c =
    let none : led_to c.in-Some.packet ≡ 0 = search rules in
    ok_as c.send.result (λ few. omega (arith, few, light c.in-Some.packet none)) c.send.ensures.load
