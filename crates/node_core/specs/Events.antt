-- What the first piece of each event asks and does, of a member that did nothing in it yet.
use Rattle.std.specs.Prelude.{◌≡◌, ℕ, Bool, true, false, refl, List, Option, None, Some, if◌then◌else◌}
use Rattle.orca_base.specs.declared.ids.ObjectId.{ObjectId}
use Rattle.value_core.specs.Meaning.{Performs}
use Rattle.value_core.specs.declared.action.Action.{Action}
use Rattle.value_core.specs.declared.action.Action.TheVariants as action
use Rattle.value_core.specs.declared.action.Class.{Class}
use Rattle.value_core.specs.declared.action.Class.TheVariants.{Reads, Writes}
use Rattle.value_core.specs.declared.action.Reply.{Reply}
use Rattle.value_core.specs.declared.message.Message.{Message}
use Rattle.object_manager.specs.State.{message_of}
use Rattle.book_law.specs.Passes.{Test}
use Rattle.group_packets.specs.declared.packet.Packet.{Packet}
use Rattle.group_rules.specs.Member.{Letter, Member as RulesMember}
use Rattle.group_rules.specs.Messages.{group_of}
use Rattle.group_rules.specs.OnWire.{on_wire}
use Rattle.group_rules.specs.Steps.{deliver}
use Rattle.group_member.specs.AtWork.{AtWork}
use Rattle.group_member.specs.StandsFor.{StandsFor}
use Rattle.group_member.specs.declared.member.Member.{Member}
use Rattle.group_member.specs.declared.sends.Letter.{Letter as Sent}
use Rattle.world_rules.specs.Frame.{Frame, bytes_of, name_of}
use Rattle.world_rules.specs.Mail.{Mail}
use Rattle.world_rules.specs.Nodes as nodes
use Rattle.world_rules.specs.Nodes.{NodeWork, entries_of, idle}
use Rattle.world_rules.specs.Parts.{submits}
use Rattle.world_rules.specs.Played.{Played}
use Rattle.world_rules.specs.Played.Stage.{Acting}
use Rattle.node_rules.specs.Conditions.{Fitness}
use Rattle.node_rules.specs.Starts.{EventFits, LetterFits, Start, begun, part}
use Rattle.node_rules.specs.Starts.Start.{Comes}
use Rattle.node_parts.specs.Shown.{Left, Stood}
use Rattle.node_core.specs.Stands.{IsDone, IsPostOf, IsWork, StandsAs}
use Rattle.node_core.specs.declared.node.Node.{Node}
use Rattle.node_parts.specs.declared.resident.Resident.{Resident}
use Rattle.node_parts.specs.declared.resident.Stage.{Stage}
use Rattle.node_parts.specs.declared.resident.Stage.TheVariants as at_stage
use Rattle.node_core.specs.declared.work.Work.{Work}

-- whichever node it stands for, the work is that of this node, which did nothing yet
abbrev pub IsIdle : {P S : Type 0} → Stood S → Left S → Node P S → Work P S → Type 0
IsIdle stood left s work = (f : Frame) (m : ℕ) (v : nodes.Node) → StandsAs stood left f m s v → IsWork stood left f m work (idle v)

-- it stands for some node of the world of which this event may be
abbrev pub MayStart : {P S : Type 0} → Stood S → Left S → Frame → Fitness → Start → Work P S → Type 0
MayStart stood left f fitness start s = (m : ℕ) × (v : nodes.Node) × IsWork stood left f m s (idle v) × EventFits f fitness m start v

-- of whichever it was, the first piece is done
abbrev pub HasStarted : {P S : Type 0} → Stood S → Left S → Frame → Fitness → Start → Work P S → Work P S → Type 0
HasStarted stood left f fitness start old new =
    (m : ℕ) (v : nodes.Node) → IsWork stood left f m old (idle v) → EventFits f fitness m start v → IsWork stood left f m new (begun f m start v)

-- of whichever it was, the whole event is done
abbrev pub HasDone : {P S : Type 0} → Stood S → Left S → Frame → Fitness → Start → Work P S → Work P S → Type 0
HasDone stood left f fitness start old new =
    (m : ℕ) (v : nodes.Node) → IsWork stood left f m old (idle v) → EventFits f fitness m start v →
    IsDone stood left f m new.node new.moved v (part f m start v)

-- ---- an action is carried out

-- the message of process i with this action as its next call
abbrev pub message_by : ℕ → ℕ → Action → Option Message
message_by i calls (action.Make kind object) =
    Some (record { process = record { 0 = i }; call = record { 0 = calls }; action = action.Make kind object; performable = refl })
message_by i calls (action.Call kind op object args) =
    Some
    (message_of
    (record { process = record { 0 = i }; call = record { 0 = calls }; kind = kind; op = op; object = object; args = args }))
message_by i calls (action.Fork text args place_on) =
    Some (record { process = record { 0 = i }; call = record { 0 = calls }; action = action.Fork text args place_on; performable = refl })
message_by i calls action.Ended = None
message_by i calls (action.Faulted fault) = None

abbrev pub acting_as : ℕ → ℕ → Stage → Option Message
acting_as i calls (at_stage.Acting act) = message_by i calls act
acting_as i calls at_stage.Computing = None
acting_as i calls (at_stage.Submitted act) = None
acting_as i calls (at_stage.Reading act) = None
acting_as i calls (at_stage.Asking act) = None
acting_as i calls (at_stage.Over act) = None

-- of process i, where it is here and its action wasn't carried out
abbrev pub acting_at : {S : Type 0} → ℕ → Option (Resident S) → Option Message
acting_at i None = None
acting_at i (Some s) = acting_as i s.calls s.stage

-- the single object that the action calls
abbrev pub called_single : Test → Action → Option ObjectId
called_single single (action.Call kind op object args) = if single object then Some object else None
called_single single (action.Make kind object) = None
called_single single (action.Fork text args place_on) = None
called_single single action.Ended = None
called_single single (action.Faulted fault) = None

abbrev pub reads_nothing : Class → Bool
reads_nothing Reads = true
reads_nothing Writes = false

-- the action is a call that changes nothing
abbrev pub is_read_by : Performs → Action → Bool
is_read_by p (action.Call kind op object args) = reads_nothing (p.class_of kind op)
is_read_by p (action.Make kind object) = false
is_read_by p (action.Fork text args place_on) = false
is_read_by p action.Ended = false
is_read_by p (action.Faulted fault) = false

-- whichever work it was in which process i is at the message's action, and whose entries stay, the message is submitted
abbrev pub HasSubmitted : {P S : Type 0} → Stood S → Left S → Frame → ℕ → Message → Work P S → Work P S → Type 0
HasSubmitted stood left f i x old new =
    (m : ℕ) (v : NodeWork) (r : Played) → IsWork stood left f m old v → v.node.played i ≡ Some r → r.stage ≡ Acting x.action →
    entries_of (submits f m i r x.action x v).node ≡ entries_of v.node → IsWork stood left f m new (submits f m i r x.action x v)

-- ---- a packet comes

-- the packet is that of this letter, which may come to the member that the state stands for
pub record IsTakenBy (nodes resilience which from : ℕ) (packet : Packet Message Reply) (letter : Letter Message) (s : Member Message Reply)
    (m : RulesMember Message) : Type 0 where
  pub stands : StandsFor (group_of name_of bytes_of nodes resilience) which s m
  pub fits : LetterFits (group_of name_of bytes_of nodes resilience) which letter m
  pub from_is : letter.packet.from ≡ from
  pub wire : on_wire nodes letter.packet.inc letter.packet.kind ≡ packet

-- so it is for some letter and some member
abbrev pub MayBeTaken : ℕ → Packet Message Reply → Member Message Reply → Type 0
MayBeTaken from packet s =
    (nodes : ℕ) × (resilience : ℕ) × (which : ℕ) × (letter : Letter Message) × (m : RulesMember Message) ×
    IsTakenBy nodes resilience which from packet letter s m

-- for whichever it is so, the letter is delivered
abbrev pub TakesGrouped : ℕ → Packet Message Reply → Member Message Reply → Member Message Reply → List (Sent Message Reply) → Type 0
TakesGrouped from packet old new sent =
    (nodes resilience which : ℕ) (letter : Letter Message) (m : RulesMember Message) → IsTakenBy nodes resilience which from packet letter old m →
    AtWork (group_of name_of bytes_of nodes resilience) which new sent (deliver (group_of name_of bytes_of nodes resilience) which letter.packet m)

-- the packet is that of some letter of the world, which may come
abbrev pub MayComeFrom : {P S : Type 0} → Stood S → Left S → Frame → Fitness → ℕ → Packet Message Reply → Work P S → Type 0
MayComeFrom stood left f fitness from packet s =
    (mail : Mail) × (m : ℕ) × (v : nodes.Node) × IsPostOf f.settings.nodes m from packet mail × IsWork stood left f m s (idle v) ×
    EventFits f fitness m (Comes mail) v

-- whichever letter it is, that has come
abbrev pub HasCome : {P S : Type 0} → Stood S → Left S → Frame → Fitness → ℕ → Packet Message Reply → Work P S → Work P S → Type 0
HasCome stood left f fitness from packet old new =
    (mail : Mail) (m : ℕ) (v : nodes.Node) → IsPostOf f.settings.nodes m from packet mail → IsWork stood left f m old (idle v) →
    EventFits f fitness m (Comes mail) v → IsWork stood left f m new (begun f m (Comes mail) v)

-- and the whole event is done
abbrev pub HasDelivered : {P S : Type 0} → Stood S → Left S → Frame → Fitness → ℕ → Packet Message Reply → Work P S → Work P S → Type 0
HasDelivered stood left f fitness from packet old new =
    (mail : Mail) (m : ℕ) (v : nodes.Node) → IsPostOf f.settings.nodes m from packet mail → IsWork stood left f m old (idle v) →
    EventFits f fitness m (Comes mail) v → IsDone stood left f m new.node new.moved v (part f m (Comes mail) v)
