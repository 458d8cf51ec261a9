use Rattle.std.proofs.Common.{◌∙◌}
use Rattle.guard_queue.proofs.Ready.{not_ready_if, position_here, position_on, ready_if}
use Rattle.guard_queue.proofs.settling.Rounds.find_ready.Goals as goal

pub returns-in_default : goal.returns-in_default
returns-in_default g c =
    let p = g.P.Performer.performs c.args.performer.now in
    let one = c.in_ok-tried.ensures {u = tt} in
    record {
      place = c.loop-at.invariant ∙ position_here _ c.args.self.now.queue c.loop-at.at one.0 one.1 (ready_if p c.args.self.now.objects one.0 c.in_ok-tried.tried one.2 c.in_default.not-Blocked);
      tried = one;
    }

pub loop-at-preserved : goal.loop-at-preserved
loop-at-preserved g c =
    let p = g.P.Performer.performs c.args.performer.now in
    let one = c.in_ok-tried.ensures {u = tt} in
    c.loop-at.invariant ∙ position_on _ c.args.self.now.queue c.loop-at.at one.0 one.1 (not_ready_if p c.args.self.now.objects one.0 c.in_ok-tried.tried one.2 c.in-Blocked.is)
