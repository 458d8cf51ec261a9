use Rattle.std.proofs.Common.{arith}
use Rattle.history_check.proofs.Playing.{begun_fork}
use Rattle.history_check.proofs.player.begin.Goals as goal

pub returns : goal.returns
returns g c =
    begun_fork _ (g.P.Processor.stands c.args.program.now) c.args.action.now c.in-Fork.process c.in-Fork.args c.in-Fork.place_on c.args.players.now.items c.push.new.self.items c.in_ok-state.state c.len-number.result
    c.in-Fork.is (omega (arith, c.len-number.ensures, c.args.players.now.ok.0)) (omega (arith, c.if-number.false)) (c.in_ok-state.ensures {u = tt}) c.in_ok-push.ensures.items
