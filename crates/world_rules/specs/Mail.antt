-- What members send to each other in a run: the group's letters, and the Asks and Answers of single copies, which the group doesn't know.
use Rattle.std.specs.Prelude.{ℕ, Bool, true, false, ◌==◌, ◌&&◌, nat_le, Option, None, Some}
use Rattle.orca_base.specs.declared.ids.CallNo.{CallNo}
use Rattle.orca_base.specs.declared.ids.ProcessNo.{ProcessNo}
use Rattle.value_core.specs.Lengths.{answer_length, told_length}
use Rattle.value_core.specs.declared.action.Reply.{Reply}
use Rattle.value_core.specs.declared.message.Message.{Message}
use Rattle.group_packets.specs.Packet.{packet_bytes, stopped}
use Rattle.group_packets.specs.declared.packet.Packet.{Packet}
use Rattle.group_packets.specs.declared.packet.Packet.TheVariants as packet
use Rattle.group_rules.specs.Member.{Letter}
use Rattle.group_rules.specs.OnWire.{Posted, post_of}
use Rattle.world_rules.specs.Frame.{bytes_of}

-- a call on a single object goes to the object's owner, with its process's place; and its reply comes back, with the number of entries
-- that the owner had applied. Either is taken once its receiver has applied as many entries as its place says
pub data Errand : Type 0 where
  Ask : (place : ℕ) (message : Message) → Errand
  Answer : (place : ℕ) (process : ProcessNo) (call : CallNo) (reply : Reply) → Errand

abbrev pub place_of : Errand → ℕ
place_of (Ask place message) = place
place_of (Answer place process call reply) = place

-- both are Asks, or both Answers, of the same call
abbrev pub same_call : ProcessNo → CallNo → ProcessNo → CallNo → Bool
same_call i n j m = (i.0 == j.0) && (n.0 == m.0)

abbrev pub same_errand : Errand → Errand → Bool
same_errand (Ask place x) (Ask other y) = same_call x.process x.call y.process y.call
same_errand (Answer place i n reply) (Answer other j m second) = same_call i n j m
same_errand (Ask place x) (Answer other j m reply) = false
same_errand (Answer place i n reply) (Ask other y) = false

-- whatever is sent: an Ask or Answer bears its sender's installed incarnation, at which nobody looks
pub data Mail : Type 0 where
  Grouped : (letter : Letter Message) → Mail
  Sends : (incarnation from to : ℕ) (errand : Errand) → Mail

abbrev pub receiver_of : Mail → ℕ
receiver_of (Grouped letter) = letter.to
receiver_of (Sends incarnation from to errand) = to

-- as it travels
abbrev pub errand_packet : ℕ → Errand → Packet Message Reply
errand_packet incarnation (Ask place message) = packet.Ask incarnation place message
errand_packet incarnation (Answer place process call reply) = packet.Answer incarnation place process call reply

abbrev pub posted : ℕ → Mail → Posted Message Reply
posted nodes (Grouped letter) = post_of nodes letter
posted nodes (Sends incarnation from to errand) = record { from = from; to = to; packet = errand_packet incarnation errand }

-- the number of a packet's bytes, as a wire is told it
abbrev pub bytes_in : Packet Message Reply → ℕ
bytes_in one = stopped (packet_bytes bytes_of (λ reply. told_length (answer_length reply)) one)

-- ---- what travels: a letter, and to how many bytes it was cut, if it was

pub record Carried : Type 0 where
  pub mail : Mail
  pub cut : Option ℕ

abbrev pub carried : Mail → Carried
carried mail = record { mail = mail; cut = None }

abbrev pub cut_to : ℕ → Carried → Carried
cut_to length one = record one { cut = Some length }

-- it is whole where it wasn't cut, or to no fewer bytes than it has
abbrev pub is_whole_at : ℕ → Option ℕ → Bool
is_whole_at bytes None = true
is_whole_at bytes (Some length) = nat_le bytes length

abbrev pub is_whole : ℕ → Carried → Bool
is_whole nodes one = is_whole_at (bytes_in (posted nodes one.mail).packet) one.cut
