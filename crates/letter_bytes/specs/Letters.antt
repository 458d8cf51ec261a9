-- A letter in bytes, and what bytes that came are.
use Rattle.std.specs.Prelude.{◌≡◌, ◌<◌, ◌-◌, ◌^◌, ℕ, List, Option, None, Some}
use Rattle.value_core.specs.declared.action.Reply.{Reply}
use Rattle.value_core.specs.declared.message.Message.{Message}
use Rattle.group_packets.specs.Packet.{kind_of}
use Rattle.group_packets.specs.declared.packet.Packet.{Packet}
use Rattle.packet_bytes.specs.Sound.{IsPacket}
use Rattle.packet_bytes.specs.Spelling.{packet_spelling}
use Rattle.world_rules.specs.Mail.{bytes_in}
use Rattle.letter_bytes.specs.declared.letters.Outgoing.{Outgoing}

-- it is this packet in bytes, twice, and what a wire is told of it
pub record IsOutgoing (one : Outgoing) (from to : ℕ) (packet : Packet Message Reply) : Type 0 where
  pub sender : one.from ≡ from
  pub receiver : one.to ≡ to
  pub kind : one.kind ≡ kind_of packet
  pub told : one.length ≡ bytes_in packet
  pub bytes : one.bytes ≡ packet_spelling packet
  pub twin : one.twin ≡ one.bytes
  pub read : IsPacket packet
  pub short : one.length < 2 ^ 32 - 1

-- the bytes are this packet's; none, where they are no packet's
abbrev pub IsIncoming : List ℕ → Option (Packet Message Reply) → Type 0
IsIncoming bytes (Some packet) = IsPacket packet × (bytes ≡ packet_spelling packet)
IsIncoming bytes None = (packet : Packet Message Reply) → IsPacket packet → bytes ≡ packet_spelling packet → ⊥
