use Rattle.std.proofs.Common.{ℕ, OnErr, OnOk, subst}
use Rattle.group_join.specs.declared.packet.JoinPacket.TheVariants.{Seek}
use Rattle.follower_run.specs.Going.{HasSent, HasSentAtMost}
use Rattle.follower_run.proofs.rounds.FollowerRounds.ask.Goals as goal

pub returns-clause-asked : goal.returns-clause-asked
returns-clause-asked g c =
    subst (λ (n : ℕ). OnOk c.send.result (HasSent c.args.self.now.number c.args.member (Seek n) (g.W.Wire.told c.args.wire.now) c.args.self.now (g.W.Wire.told c.send.new.wire) c.send.new.self)) c.applied.ensures c.send.ensures.sent

pub returns-clause-left : goal.returns-clause-left
returns-clause-left g c =
    subst (λ (n : ℕ). OnErr c.send.result (HasSentAtMost c.args.self.now.number c.args.member (Seek n) (g.W.Wire.told c.args.wire.now) c.args.self.now (g.W.Wire.told c.send.new.wire) c.send.new.self)) c.applied.ensures c.send.ensures.left
