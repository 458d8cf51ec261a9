-- What bytes spell: sound messages, replies and packets, whose numbers fit their types.
use Rattle.std.specs.Prelude.{ℕ, ℤ, ◌<◌, ◌^◌, Option, None, Some, FitsSigned}
use Rattle.std.specs.Int.{w64}
use Rattle.orca_base.specs.declared.ids.ObjectId.{ObjectId}
use Rattle.value_core.specs.Sound.{IsSoundMessage, IsSoundReply}
use Rattle.value_core.specs.declared.action.Action.{Action}
use Rattle.value_core.specs.declared.action.Action.TheVariants as action
use Rattle.value_core.specs.declared.action.Reply.{Reply}
use Rattle.value_core.specs.declared.message.Message.{Message}
use Rattle.group_packets.specs.Sound.{IsSoundPacket}
use Rattle.group_packets.specs.declared.packet.Packet.{Packet}
use Rattle.group_packets.specs.declared.packet.Packet.TheVariants as packet

-- numbers of 2, 4 and 8 bytes
abbrev pub Fits2 : ℕ → Type 0
Fits2 n = n < 2 ^ 16

abbrev pub Fits4 : ℕ → Type 0
Fits4 n = n < 2 ^ 32

abbrev pub Fits8 : ℕ → Type 0
Fits8 n = n < 2 ^ 64

abbrev pub ObjectFits : ObjectId → Type 0
ObjectFits object = Fits2 object.process × Fits4 object.number

abbrev pub PlaceFits : Option ℤ → Type 0
PlaceFits None = Unit {0}
PlaceFits (Some place) = FitsSigned w64 place

-- the numbers of an action, but for its values
abbrev pub ActionFits : Action → Type 0
ActionFits (action.Make kind object) = Fits2 kind.0 × ObjectFits object
ActionFits (action.Call kind op object args) = Fits2 kind.0 × Fits2 op.0 × ObjectFits object
ActionFits (action.Fork process args place_on) = Fits2 process.0 × PlaceFits place_on
ActionFits action.Ended = Unit {0}
ActionFits (action.Faulted fault) = Unit {0}

-- a sound message whose numbers fit
pub record IsMessage (message : Message) : Type 0 where
  pub sound : IsSoundMessage message
  pub process : Fits2 message.process.0
  pub call : Fits8 message.call.0
  pub action : ActionFits message.action

-- the numbers of a packet, but for its messages and its reply
abbrev pub PacketFits : Packet Message Reply → Type 0
PacketFits (packet.Request incarnation applied message) = Fits8 incarnation × Fits8 applied
PacketFits (packet.Body incarnation applied message) = Fits8 incarnation × Fits8 applied
PacketFits (packet.Order incarnation number process call accepted stable) =
    Fits8 incarnation × Fits8 number × Fits2 process.0 × Fits8 call.0 × Fits8 accepted × Fits8 stable
PacketFits (packet.Entry incarnation number accepted stable message) = Fits8 incarnation × Fits8 number × Fits8 accepted × Fits8 stable
PacketFits (packet.Ack incarnation length applied) = Fits8 incarnation × Fits8 length × Fits8 applied
PacketFits (packet.Accept incarnation accepted stable) = Fits8 incarnation × Fits8 accepted × Fits8 stable
PacketFits (packet.Nack incarnation first applied whole) = Fits8 incarnation × Fits8 first × Fits8 applied
PacketFits (packet.Status incarnation length applied) = Fits8 incarnation × Fits8 length × Fits8 applied
PacketFits (packet.Invite incarnation) = Fits8 incarnation
PacketFits (packet.Join join) =
    Fits8 join.incarnation × Fits8 join.installed × Fits8 join.accepted × Fits8 join.applied × Fits8 join.base
PacketFits (packet.Result news) = Fits8 news.incarnation × Fits8 news.accepted × Fits8 news.base
PacketFits (packet.Ask incarnation place message) = Fits8 incarnation × Fits8 place
PacketFits (packet.Answer incarnation place process call reply) = Fits8 incarnation × Fits8 place × Fits2 process.0 × Fits8 call.0

-- a sound packet whose numbers fit
pub record IsPacket (p : Packet Message Reply) : Type 0 where
  pub sound : IsSoundPacket IsMessage IsSoundReply p
  pub fits : PacketFits p
