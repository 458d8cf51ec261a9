-- Sound packets: those that bytes spell, where messages and replies are sound: docs/RUNTIME.md, Packets.
use Rattle.std.specs.Prelude.{ℕ, ◌<◌, ◌^◌, List, All, length}
use Rattle.std.specs.List.Sorted.{IsStrictlyIncreasing}
use Rattle.orca_base.specs.declared.limits.TheConstants.{NODES}
use Rattle.group_packets.specs.declared.packet.Packet.{Packet}
use Rattle.group_packets.specs.declared.packet.Packet.TheVariants.{Request, Body, Order, Entry, Ack, Accept, Nack, Status, Invite, Join, Result, Ask, Answer}

-- the entries of a log that travel: each is sound, and their number fits 32 bits
abbrev pub AreSoundEntries : {B : Type 0} → (B → Type 0) → List B → Type 0
AreSoundEntries S messages = All S messages × (length messages < 2 ^ 32)

-- members that rise, each of which there may be
abbrev pub AreMembers : List ℕ → Type 0
AreMembers members = IsStrictlyIncreasing members × All (λ member. member < NODES) members

-- what bytes ask of a packet beyond the ranges of its fields' types, S of each message and T of each reply
abbrev pub IsSoundPacket : {B R : Type 0} → (B → Type 0) → (R → Type 0) → Packet B R → Type 0
IsSoundPacket S T (Request incarnation applied message) = S message
IsSoundPacket S T (Body incarnation applied message) = S message
IsSoundPacket S T (Order incarnation number process call accepted stable) = Unit {0}
IsSoundPacket S T (Entry incarnation number accepted stable message) = S message
IsSoundPacket S T (Ack incarnation length applied) = Unit {0}
IsSoundPacket S T (Accept incarnation accepted stable) = Unit {0}
IsSoundPacket S T (Nack incarnation first applied whole) = Unit {0}
IsSoundPacket S T (Status incarnation length applied) = Unit {0}
IsSoundPacket S T (Invite incarnation) = Unit {0}
IsSoundPacket S T (Join join) = AreSoundEntries S join.messages
IsSoundPacket S T (Result news) = AreSoundEntries S news.messages × AreMembers news.members
IsSoundPacket S T (Ask incarnation place message) = S message
IsSoundPacket S T (Answer incarnation place process call reply) = T reply
