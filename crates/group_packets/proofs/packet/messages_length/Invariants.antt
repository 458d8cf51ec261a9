use Rattle.std.proofs.Common.{◌≡◌, map, sum, take}
use Rattle.group_packets.specs.Packet.{stopped}
use Rattle.group_packets.proofs.packet.messages_length.Given as goal

abbrev pub invariant-messages : goal.invariant-messages
invariant-messages g l = l.total ≡ stopped (sum (map g.B.Body.length_of (take l.message-index l.messages)))
