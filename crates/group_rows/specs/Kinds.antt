-- The kind of a packet of the rules, as it travels.
use Rattle.std.specs.Prelude.{ℕ, ◌≡◌}
use Rattle.group_packets.specs.declared.packet.PacketKind.{PacketKind}
use Rattle.group_packets.specs.declared.packet.PacketKind.TheVariants as K
use Rattle.group_packets.specs.Packet.{kind_of, incarnation_of}
use Rattle.group_rules.specs.Member.{Kind}
use Rattle.group_rules.specs.Member.Kind.{Request, Body, Order, Entry, Ack, Accept, Nack, Status, Invite, Join, News}
use Rattle.group_rules.specs.OnWire.{on_wire}

-- each of the rules' kinds travels as one of the packets' kinds; none as Ask or Answer
abbrev pub wire_kind : {M : Type 0} → Kind M → PacketKind
wire_kind (Request applied x) = K.Request
wire_kind (Body applied x) = K.Body
wire_kind (Order number process call accepted stable) = K.Order
wire_kind (Entry number accepted stable x) = K.Entry
wire_kind (Ack count applied) = K.Ack
wire_kind (Accept accepted stable) = K.Accept
wire_kind (Nack first applied whole) = K.Nack
wire_kind (Status count applied) = K.Status
wire_kind Invite = K.Invite
wire_kind (Join report) = K.Join
wire_kind (News accepted base members log) = K.Result

-- so a packet that travels shows the kind and the incarnation that it was sent with
abbrev pub KindsLaw : Type 0 → Type 0 → Type 0
KindsLaw M R = (N k : ℕ) (kind : Kind M) → kind_of (on_wire {R = R} N k kind) ≡ wire_kind kind

abbrev pub IncarnationsLaw : Type 0 → Type 0 → Type 0
IncarnationsLaw M R = (N k : ℕ) (kind : Kind M) → incarnation_of (on_wire {R = R} N k kind) ≡ k
