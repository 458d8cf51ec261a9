use Rattle.std.proofs.Common.{◌≡◌, map, take}
use Rattle.object_manager.specs.State.{message_of}
use Rattle.object_manager.proofs.state.queue_from.Given as goal

abbrev pub invariant-loop-message : goal.invariant-loop-message
invariant-loop-message l = map message_of l.queue ≡ take l.message-index l.messages
