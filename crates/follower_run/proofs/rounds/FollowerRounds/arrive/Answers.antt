use Rattle.std.proofs.Common.{OnErr, OnOk, arith, ap, subst, sym}
use Rattle.group_join.specs.declared.packet.JoinPacket.{JoinPacket}
use Rattle.follower_run.specs.Going.{GoesOn, LeavesAtMost, Reaches}
use Rattle.follower_run.specs.Posts.{led_to, load}
use Rattle.follower_run.proofs.Coming.{IsTaken, stays_left, taken_reaches}
use Rattle.follower_run.proofs.Results.{err_as, ok_as, on_ok}
use Rattle.follower_run.proofs.rounds.FollowerRounds.arrive.Goals as goal

pub returns-in-Seek-clause-next : goal.returns-in-Seek-clause-next
returns-in-Seek-clause-next g c =
    subst (λ (p : JoinPacket). OnOk c.reply.result (GoesOn g.P.OneRun.run.frame c.args.world.now.steps (g.W.Wire.told c.args.wire.now) c.args.self.now (g.W.Wire.told c.reply.new.wire) c.reply.new.self (Reaches g.P.OneRun.run.frame c.args.to p)))
    (sym c.in-Seek.is) c.reply.ensures.next

pub returns-in-Seek-clause-left : goal.returns-in-Seek-clause-left
returns-in-Seek-clause-left g c =
    subst (λ (p : JoinPacket). OnErr c.reply.result (LeavesAtMost g.P.OneRun.run.frame c.args.world.now.steps (g.W.Wire.told c.args.wire.now) c.args.self.now (g.W.Wire.told c.reply.new.wire) c.reply.new.self (Reaches g.P.OneRun.run.frame c.args.to p)))
    (sym c.in-Seek.is) c.reply.ensures.left

pub returns-in-Seek-clause-load : goal.returns-in-Seek-clause-load
returns-in-Seek-clause-load g c = ok_as c.reply.result (λ few. omega (arith, few, ap led_to c.in-Seek.is)) c.reply.ensures.load

pub returns-in-State-clause-next : goal.returns-in-State-clause-next
returns-in-State-clause-next g c =
    ok_as c.take.result
    (λ took. taken_reaches g.P.OneRun.run.frame c.args.world.now.steps (g.W.Wire.told c.args.wire.now) c.args.self.now c.take.new.self c.args.to c.args.packet (subst (IsTaken g.P.OneRun.run.frame c.args.world.now.steps) (sym c.in-State.is) tt) took)
    c.take.ensures.took

pub returns-in-State-clause-left : goal.returns-in-State-clause-left
returns-in-State-clause-left g c =
    err_as c.take.result
    (λ same. stays_left g.P.OneRun.run.frame c.args.world.now.steps (Reaches g.P.OneRun.run.frame c.args.to c.args.packet) (g.W.Wire.told c.args.wire.now) c.args.self.now c.take.new.self (ap (λ s. s.follower) same) (ap (λ s. s.states) same))
    c.take.ensures.err

pub returns-in-State-clause-load : goal.returns-in-State-clause-load
returns-in-State-clause-load g c = on_ok c.take.result _ (omega (arith, ap (λ q. load q.items) c.take.ensures.load))

pub returns-in-Next-clause-next : goal.returns-in-Next-clause-next
returns-in-Next-clause-next g c =
    ok_as c.take-in-Next.result
    (λ took. taken_reaches g.P.OneRun.run.frame c.args.world.now.steps (g.W.Wire.told c.args.wire.now) c.args.self.now c.take-in-Next.new.self c.args.to c.args.packet (subst (IsTaken g.P.OneRun.run.frame c.args.world.now.steps) (sym c.in-Next.is) tt) took)
    c.take-in-Next.ensures.took

pub returns-in-Next-clause-left : goal.returns-in-Next-clause-left
returns-in-Next-clause-left g c =
    err_as c.take-in-Next.result
    (λ same. stays_left g.P.OneRun.run.frame c.args.world.now.steps (Reaches g.P.OneRun.run.frame c.args.to c.args.packet) (g.W.Wire.told c.args.wire.now) c.args.self.now c.take-in-Next.new.self (ap (λ s. s.follower) same) (ap (λ s. s.states) same))
    c.take-in-Next.ensures.err

pub returns-in-Next-clause-load : goal.returns-in-Next-clause-load
returns-in-Next-clause-load g c = on_ok c.take-in-Next.result _ (omega (arith, ap (λ q. load q.items) c.take-in-Next.ensures.load))
