-- How a member's code stands for a member of the world, also while it is at work in an event.
use Rattle.std.specs.Prelude.{◌≡◌, ℕ, List, ◌++◌, map, None, slice_index_or}
use Rattle.value_core.specs.declared.action.Reply.{Reply}
use Rattle.value_core.specs.declared.message.Message.{Message}
use Rattle.group_packets.specs.declared.packet.Packet.{Packet}
use Rattle.group_member.specs.AtWork.{told_to}
use Rattle.group_member.specs.StandsFor.{StandsFor}
use Rattle.group_member.specs.declared.sends.Letter.{Letter}
use Rattle.book_law.specs.Fitness.{ArgsFit, ReplyFits, StateFits, TextFits}
use Rattle.world_rules.specs.Frame.{Frame, group}
use Rattle.world_rules.specs.Mail.{Mail, posted}
use Rattle.world_rules.specs.Nodes as nodes
use Rattle.world_rules.specs.Nodes.{Deed, NodeWork, aside_of, entries_of, known, mails_of}
use Rattle.world_rules.specs.Processes.{Begun}
use Rattle.node_rules.specs.Conditions.{Conditions, Fitness}
use Rattle.node_rules.specs.Entries.{told_lines}
use Rattle.node_rules.specs.Moments.{Moment, Walks}
use Rattle.node_rules.specs.Starts.{EventFits, Start, part}
use Rattle.node_rules.specs.Starts.Start.{Comes}
use Rattle.node_parts.specs.Shown.{IsPlayedIf, Left, Stood, on_errand, on_given}
use Rattle.node_parts.specs.declared.errand.Errand.{Errand}
use Rattle.node_parts.specs.declared.moved.Moved.{Moved}
use Rattle.node_core.specs.declared.node.Known.{Known}
use Rattle.node_core.specs.declared.node.Node.{Node}
use Rattle.node_core.specs.declared.work.Work.{Work}

-- ---- between events

-- what is kept of a process that it knows
abbrev pub on_known : Begun → Known
on_known process = record { text = process.text; home = process.home }

-- member m's code is this node of the world
pub record StandsAs {P S : Type 0} (stood : Stood S) (left : Left S) (f : Frame) (m : ℕ) (s : Node P S) (v : nodes.Node) : Type 0 where
  pub member : StandsFor (group f) m s.member v.member
  pub copies : s.copies ≡ v.copies
  pub known : s.known.items ≡ map on_known (known f v)
  pub residents : (i : ℕ) → IsPlayedIf stood left i (slice_index_or s.residents.items i None) (v.played i)
  pub held : map on_errand s.held.items ≡ v.held
  pub given : (i : ℕ) → on_given (slice_index_or s.given.items i None) ≡ v.given i
  pub choices : s.choices ≡ f.settings.choices

-- whichever node it is, the other one is that too
abbrev pub StandsAlike : {P S : Type 0} → Stood S → Left S → Node P S → Node P S → Type 0
StandsAlike stood left s t = (f : Frame) (m : ℕ) (v : nodes.Node) → StandsAs stood left f m s v → StandsAs stood left f m t v

-- ---- what it did

-- a letter of the world, as it is sent
abbrev pub sent : ℕ → Mail → Letter Message Reply
sent nodes mail = told_to (posted nodes mail)

-- it did this
pub record IsMoved (nodes : ℕ) (moved : Moved) (deeds : List Deed) : Type 0 where
  pub sends : moved.sends.items ≡ map (sent nodes) (mails_of deeds)
  pub entries : moved.entries.items ≡ told_lines deeds
  pub aside : moved.aside.items ≡ aside_of deeds

-- what fits, by a machine's predicates
abbrev pub fitness_of : StateFits → ArgsFit → TextFits → ReplyFits → Fitness
fitness_of state args text reply = record { state = state; args = args; text = text; reply = reply }

-- ---- in an event

-- the node at work is this work of the world
pub record IsWork {P S : Type 0} (stood : Stood S) (left : Left S) (f : Frame) (m : ℕ) (s : Work P S) (v : NodeWork) : Type 0 where
  pub node : StandsAs stood left f m s.node v.node
  pub moved : IsMoved f.settings.nodes s.moved v.deeds

-- what is at hand is this, too; and the conditions hold wherever it goes on to
pub record IsAt {P S : Type 0} (stood : Stood S) (left : Left S) (f : Frame) (fitness : Fitness) (m : ℕ) (s : Work P S) (hand : List Errand)
    (u : Moment) : Type 0 where
  pub work : IsWork stood left f m s u.work
  pub errands : map on_errand hand ≡ u.hand
  pub fits : (x : Moment) → Walks f m u x → Conditions f fitness m x

-- ---- of an event

-- member m's part of an event of a node that it stands for may be done
abbrev pub MayDo : {P S : Type 0} → Stood S → Left S → Frame → Fitness → Node P S → Start → Type 0
MayDo stood left f fitness s start =
    (v : nodes.Node) × StandsAs stood left f s.member.me s v × EventFits f fitness s.member.me start v

-- the part of the node before is done: the node stands for what is left, this was done, and the messages are the entries that it applied
pub record IsDone {P S : Type 0} (stood : Stood S) (left : Left S) (f : Frame) (m : ℕ) (s : Node P S) (moved : Moved) (before : nodes.Node)
    (v : NodeWork) : Type 0 where
  pub node : StandsAs stood left f m s v.node
  pub did : IsMoved f.settings.nodes moved v.deeds
  pub messages : entries_of before ++ moved.messages.items ≡ entries_of v.node

-- of whichever node it stood for whose part may be done, it is
abbrev pub Does : {P S : Type 0} → Stood S → Left S → Frame → Fitness → Node P S → Node P S → Moved → Start → Type 0
Does stood left f fitness old new moved start =
    (v : nodes.Node) → StandsAs stood left f old.member.me old v → EventFits f fitness old.member.me start v →
    IsDone stood left f old.member.me new moved v (part f old.member.me start v)

-- ---- a packet

-- it is what comes to member m of this letter
abbrev pub IsPostOf : ℕ → ℕ → ℕ → Packet Message Reply → Mail → Type 0
IsPostOf nodes m from packet mail = posted nodes mail ≡ record { from = from; to = m; packet = packet }

-- it is of some letter, whose part may be done
abbrev pub MayTakePacket : {P S : Type 0} → Stood S → Left S → Frame → Fitness → ℕ → Packet Message Reply → Node P S → Type 0
MayTakePacket stood left f fitness from packet s =
    (mail : Mail) × IsPostOf f.settings.nodes s.member.me from packet mail × MayDo stood left f fitness s (Comes mail)

-- of whichever letter it is, that one's part is done
abbrev pub TakesPacket : {P S : Type 0} → Stood S → Left S → Frame → Fitness → ℕ → Packet Message Reply → Node P S → Node P S → Moved → Type 0
TakesPacket stood left f fitness from packet old new moved =
    (mail : Mail) → IsPostOf f.settings.nodes old.member.me from packet mail → Does stood left f fitness old new moved (Comes mail)
