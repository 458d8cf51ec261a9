-- What a packet says of itself, and the number of its bytes: docs/RUNTIME.md, Packets.
use Rattle.std.specs.Prelude.{ℕ, ◌+◌, length, sum, map, min}
use Rattle.group_packets.specs.declared.packet.Packet.{Packet}
use Rattle.group_packets.specs.declared.packet.Packet.TheVariants.{Request, Body, Order, Entry, Ack, Accept, Nack, Status, Invite, Join, Result, Ask, Answer}
use Rattle.group_packets.specs.declared.packet.PacketKind.{PacketKind}
use Rattle.group_packets.specs.declared.packet.PacketKind.TheVariants as K

-- the incarnation that the packet is of
abbrev pub incarnation_of : {B R : Type 0} → Packet B R → ℕ
incarnation_of (Request incarnation applied message) = incarnation
incarnation_of (Body incarnation applied message) = incarnation
incarnation_of (Order incarnation number process call accepted stable) = incarnation
incarnation_of (Entry incarnation number accepted stable message) = incarnation
incarnation_of (Ack incarnation length applied) = incarnation
incarnation_of (Accept incarnation accepted stable) = incarnation
incarnation_of (Nack incarnation first applied whole) = incarnation
incarnation_of (Status incarnation length applied) = incarnation
incarnation_of (Invite incarnation) = incarnation
incarnation_of (Join join) = join.incarnation
incarnation_of (Result news) = news.incarnation
incarnation_of (Ask incarnation place message) = incarnation
incarnation_of (Answer incarnation place process call reply) = incarnation

-- its kind
abbrev pub kind_of : {B R : Type 0} → Packet B R → PacketKind
kind_of (Request incarnation applied message) = K.Request
kind_of (Body incarnation applied message) = K.Body
kind_of (Order incarnation number process call accepted stable) = K.Order
kind_of (Entry incarnation number accepted stable message) = K.Entry
kind_of (Ack incarnation length applied) = K.Ack
kind_of (Accept incarnation accepted stable) = K.Accept
kind_of (Nack incarnation first applied whole) = K.Nack
kind_of (Status incarnation length applied) = K.Status
kind_of (Invite incarnation) = K.Invite
kind_of (Join join) = K.Join
kind_of (Result news) = K.Result
kind_of (Ask incarnation place message) = K.Ask
kind_of (Answer incarnation place process call reply) = K.Answer

-- the tag has 1 byte and the incarnation 8
abbrev pub HEAD_BYTES : ℕ
HEAD_BYTES = 9

-- the number of the packet's bytes, where a message and a reply have these
abbrev pub packet_bytes : {B R : Type 0} → (B → ℕ) → (R → ℕ) → Packet B R → ℕ
packet_bytes message_bytes reply_bytes (Request incarnation applied message) = HEAD_BYTES + 8 + message_bytes message
packet_bytes message_bytes reply_bytes (Body incarnation applied message) = HEAD_BYTES + 8 + message_bytes message
packet_bytes message_bytes reply_bytes (Order incarnation number process call accepted stable) = HEAD_BYTES + 8 + 2 + 8 + 8 + 8
packet_bytes message_bytes reply_bytes (Entry incarnation number accepted stable message) = HEAD_BYTES + 8 + 8 + 8 + message_bytes message
packet_bytes message_bytes reply_bytes (Ack incarnation length applied) = HEAD_BYTES + 8 + 8
packet_bytes message_bytes reply_bytes (Accept incarnation accepted stable) = HEAD_BYTES + 8 + 8
packet_bytes message_bytes reply_bytes (Nack incarnation first applied whole) = HEAD_BYTES + 8 + 8 + 1
packet_bytes message_bytes reply_bytes (Status incarnation length applied) = HEAD_BYTES + 8 + 8
packet_bytes message_bytes reply_bytes (Invite incarnation) = HEAD_BYTES
packet_bytes message_bytes reply_bytes (Join join) = HEAD_BYTES + 8 + 8 + 8 + 8 + 4 + sum (map message_bytes join.messages)
packet_bytes message_bytes reply_bytes (Result news) = HEAD_BYTES + 8 + 8 + 1 + length news.members + 4 +
    sum (map message_bytes news.messages)
packet_bytes message_bytes reply_bytes (Ask incarnation place message) = HEAD_BYTES + 8 + message_bytes message
packet_bytes message_bytes reply_bytes (Answer incarnation place process call reply) = HEAD_BYTES + 8 + 2 + 8 + reply_bytes reply

-- a number of bytes, which stops at the greatest of 32 bits
abbrev pub stopped : ℕ → ℕ
stopped bytes = min bytes 4294967295
