-- What a wire was asked, and how many packets of a kind it was asked about. Lists of what was asked stand latest first here: what
-- a wire answers next depends on all of it, and a told list has it in order of time.
use Rattle.std.specs.Prelude.{ℕ, Bool, true, false, ◌==◌, List, count_by}
use Rattle.group_packets.specs.declared.packet.PacketKind.{PacketKind}
use Rattle.group_packets.specs.declared.packet.PacketKind.TheVariants.{Request, Body, Order, Entry, Ack, Accept, Nack, Status, Invite, Join, Result, Ask, Answer}
use Rattle.net_rules.specs.declared.fate.Fate.{Fate}
use Rattle.net_rules.specs.declared.asked.Asked.{Asked}
use Rattle.net_rules.specs.declared.asked.Asked.TheVariants.{Packet, Act}
use Rattle.net_rules.specs.declared.line.Kinds.{Kinds}
use Rattle.net_rules.specs.declared.line.Kinds.TheVariants.{Any, Only}

-- a packet with its fate, as a wire tells it
abbrev pub packet_asked : ℕ → PacketKind → ℕ → ℕ → ℕ → Fate → Asked
packet_asked packet kind from to length fate =
    Packet (record { packet = packet; kind = kind; from = from; to = to; length = length }) fate

-- a kind's number, in the order of the variants
abbrev pub kind_number : PacketKind → ℕ
kind_number Request = 0
kind_number Body = 1
kind_number Order = 2
kind_number Entry = 3
kind_number Ack = 4
kind_number Accept = 5
kind_number Nack = 6
kind_number Status = 7
kind_number Invite = 8
kind_number Join = 9
kind_number Result = 10
kind_number Ask = 11
kind_number Answer = 12

-- a packet of this kind is one of those
abbrev pub is_of : Kinds → PacketKind → Bool
is_of Any kind = true
is_of (Only wanted) kind = kind_number wanted == kind_number kind

-- what was asked is the fate of a packet of these kinds
abbrev pub asks_about : Kinds → Asked → Bool
asks_about kinds (Packet question fate) = is_of kinds question.kind
asks_about kinds (Act event_number act) = false

-- how many packets of these kinds were asked about
abbrev pub count : Kinds → List Asked → ℕ
count kinds asked = count_by (asks_about kinds) asked
