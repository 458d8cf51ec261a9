use Rattle.std.proofs.Common.{◌≡◌, map, take}
use Rattle.object_manager.specs.State.{message_of}
use Rattle.object_manager.proofs.state.messages_of.Given as goal

abbrev pub invariant-loop-at : goal.invariant-loop-at
invariant-loop-at l = l.all.items ≡ map message_of (take l.at l.queue)
