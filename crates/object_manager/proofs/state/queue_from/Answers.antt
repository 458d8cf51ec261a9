use Rattle.std.proofs.Common.{◌∙◌, ap, map}
use Rattle.object_manager.specs.State.{message_of}
use Rattle.object_manager.proofs.Sending.{asked_next}
use Rattle.object_manager.proofs.state.queue_from.Goals as goal

pub loop-message-preserved : goal.loop-message-preserved
loop-message-preserved c =
    ap (map message_of) (c.in_ok-push.ensures {u = tt}).ok
    ∙ asked_next c.args.messages.now c.loop-message.message-index c.message-item.result c.loop-message.queue c.in_ok-call_in.field-0 c.loop-message-test.true c.message-item.is (c.in_ok-call_in.ensures {u = tt}) c.loop-message.invariant
