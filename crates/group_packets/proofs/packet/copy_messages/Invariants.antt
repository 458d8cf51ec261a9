use Rattle.std.proofs.Common.{◌≡◌, take}
use Rattle.group_packets.proofs.packet.copy_messages.Given as goal

abbrev pub invariant-messages : goal.invariant-messages
invariant-messages g l = l.copied.items ≡ take l.message-index l.messages
