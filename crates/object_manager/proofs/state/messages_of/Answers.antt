use Rattle.object_manager.proofs.Sending.{told_next}
use Rattle.std.proofs.Common.{◌∙◌}
use Rattle.object_manager.proofs.state.messages_of.Goals as goal

pub loop-at-preserved : goal.loop-at-preserved
loop-at-preserved c =
    c.in_ok-push.ensures.items
    ∙ told_next c.args.queue.now c.loop-at.at c.get.result.now c.loop-at.all.items c.in_ok-message_of.field-0 c.get.ensures (c.in_ok-message_of.ensures {u = tt}) c.loop-at.invariant
