-- How a member's part of an event begins, and what is asked of the event: of its first call, and of each moment from there on.
use Rattle.std.specs.Prelude.{◌≡◌, ◌≤◌, ◌<◌, ◌+◌, ◌%◌, ℕ, true, false, List, length, take, Some}
use Rattle.orca_base.specs.declared.limits.TheConstants.{WINDOW}
use Rattle.value_core.specs.declared.action.Action.{Action}
use Rattle.value_core.specs.declared.action.Action.TheVariants as action
use Rattle.value_core.specs.declared.action.Class.TheVariants.{Reads}
use Rattle.value_core.specs.declared.message.Message.{Message}
use Rattle.guard_queue.specs.declared.queue.Suspended.{Suspended}
use Rattle.object_manager.specs.State.{message_of}
use Rattle.object_manager.specs.Viewed.{ReadFits}
use Rattle.group_rules.specs.Messages.{Group}
use Rattle.group_rules.specs.Member.{Kind, Letter, Member, Report, is_gathering}
use Rattle.group_rules.specs.Member.Kind.{Request, Body, Order, Entry, Ack, Accept, Nack, Status, Invite, Join, News}
use Rattle.group_rules.specs.Reset.{CanGather, coordinate, keeps}
use Rattle.group_rules.specs.Steps.{timer}
use Rattle.world_rules.specs.Frame.{Frame, group}
use Rattle.world_rules.specs.Mail.{Mail}
use Rattle.world_rules.specs.Nodes.{Node, NodeWork, entries_of, idle, joins, known, plays}
use Rattle.world_rules.specs.Parts.{acts, acts_of, receives, receives_mail, suspects, ticks}
use Rattle.world_rules.specs.Played.{Played, moves_to, next_call}
use Rattle.world_rules.specs.Played.Stage.{Acting, Asking}
use Rattle.world_rules.specs.Processes.{owner_in, singles_of}
use Rattle.node_rules.specs.Conditions.{Conditions, Fitness, MayPerform}
use Rattle.node_rules.specs.Moments.{Moment, Walks, at_work}

-- a process's action is carried out; a letter comes; time passes; the member suspects its sequencer
pub data Start : Type 0 where
  Acts : (process : ℕ) → Start
  Comes : (mail : Mail) → Start
  Ticks : Start
  Suspects : Start

-- member m's part of the event
abbrev pub part : Frame → ℕ → Start → Node → NodeWork
part f m (Acts i) node = acts f m i node
part f m (Comes mail) node = receives f m mail node
part f m Ticks node = ticks f m node
part f m Suspects node = suspects f m node

-- its first piece. At a tick the Asks follow, and then it catches up, as after every other piece
abbrev pub begun : Frame → ℕ → Start → Node → NodeWork
begun f m (Acts i) node = acts_of f m i (node.played i) (idle node)
begun f m (Comes mail) node = receives_mail f m mail (idle node)
begun f m Ticks node = joins (timer (group f) m node.member) (idle node)
begun f m Suspects node = joins (coordinate (group f) m node.member) (idle node)

-- ---- what the first piece asks

-- a call of process i, which is r, at its member m: on a single object of this member it may be performed, with the process asking; a
-- read of a replicated one may be tried
pub record MayCall (f : Frame) (fitness : Fitness) (m i : ℕ) (r : Played) (node : Node) (call : Suspended) : Type 0 where
  pub owned :
      singles_of f (known f node) call.object ≡ true → owner_in (known f node) call.object ≡ m →
      MayPerform f fitness (plays i (moves_to (Asking (message_of call).action) r) (idle node)).node (message_of call)
  pub read :
      singles_of f (known f node) call.object ≡ false → f.performs.class_of call.kind call.op ≡ Reads →
      ReadFits fitness.state fitness.args node.copies.objects call.kind call.op call.object call.args

abbrev pub MayAct : Frame → Fitness → ℕ → ℕ → Played → Node → Action → Type 0
MayAct f fitness m i r node (action.Call kind op object given) =
    MayCall f fitness m i r node
    (record { process = record { 0 = i }; call = next_call r; kind = kind; op = op; object = object; args = given })
MayAct f fitness m i r node (action.Make kind object) = Unit {0}
MayAct f fitness m i r node (action.Fork text given place_on) = Unit {0}
MayAct f fitness m i r node action.Ended = Unit {0}
MayAct f fitness m i r node (action.Faulted fault) = Unit {0}

-- a report that comes in a Join: it has the entries that don't travel; and where member m gathers for that incarnation, the log that it
-- would install with this answer can be taken
pub record JoinFits (g : Group Message) (m from k : ℕ) (report : Report Message) (s : Member Message) : Type 0 where
  pub based : report.base ≤ length report.log
  pub can : is_gathering g m s ≡ true → k ≡ s.promised → CanGather g (keeps from report s)

-- a log that comes in a Result, with so many accepted entries and so many that don't travel: what travels fits into a window, and it
-- comes to another than its coordinator. Of a later incarnation than the installed one, it has what the member applied, and reaches
-- what that accepted
pub record NewsFits (g : Group Message) (m k accepted base : ℕ) (log : List Message) (s : Member Message) : Type 0 where
  pub whole : base ≤ length log
  pub accepts : accepted ≤ length log
  pub window : length log ≤ base + WINDOW
  pub other : k % g.nodes ≡ m → ⊥
  pub reaches : s.installed < k → s.accepted ≤ length log
  pub continues : s.installed < k → take s.applied log ≡ take s.applied s.log

-- a packet of incarnation k, of this kind, from this member, comes to member m
abbrev pub KindFits : Group Message → ℕ → ℕ → ℕ → Kind Message → Member Message → Type 0
KindFits g m from k (Join report) s = JoinFits g m from k report s
KindFits g m from k (News accepted base members log) s = NewsFits g m k accepted base log s
KindFits g m from k (Request applied x) s = Unit {0}
KindFits g m from k (Body applied x) s = Unit {0}
KindFits g m from k (Order number process call accepted stable) s = Unit {0}
KindFits g m from k (Entry number accepted stable x) s = Unit {0}
KindFits g m from k (Ack count applied) s = Unit {0}
KindFits g m from k (Accept accepted stable) s = Unit {0}
KindFits g m from k (Nack first applied whole) s = Unit {0}
KindFits g m from k (Status count applied) s = Unit {0}
KindFits g m from k Invite s = Unit {0}

-- a letter of the group is from another member, and its packet is as its kind asks
pub record LetterFits (g : Group Message) (m : ℕ) (letter : Letter Message) (s : Member Message) : Type 0 where
  pub from : letter.packet.from < g.nodes
  pub kind : KindFits g m letter.packet.from letter.packet.inc letter.packet.kind s

abbrev pub MailFits : Frame → ℕ → Mail → Node → Type 0
MailFits f m (Mail.Grouped letter) node = LetterFits (group f) m letter node.member
MailFits f m (Mail.Sends incarnation from to errand) node = Unit {0}

abbrev pub StartFits : Frame → Fitness → ℕ → Start → Node → Type 0
StartFits f fitness m (Acts i) node =
    (r : Played) (act : Action) → node.played i ≡ Some r → r.stage ≡ Acting act → MayAct f fitness m i r node act
StartFits f fitness m (Comes mail) node = MailFits f m mail node
StartFits f fitness m Ticks node = Unit {0}
StartFits f fitness m Suspects node = Unit {0}

-- ---- what is asked of an event

-- `before`, the conditions hold where it begins; `first`, its first piece may be done; `kept`, that leaves the entries that the copies
-- applied as they are; `moments`, the conditions hold wherever it goes on to from there
pub record EventFits (f : Frame) (fitness : Fitness) (m : ℕ) (start : Start) (node : Node) : Type 0 where
  pub before : Conditions f fitness m (at_work (idle node))
  pub first : StartFits f fitness m start node
  pub kept : entries_of (begun f m start node).node ≡ entries_of node
  pub moments : (u : Moment) → Walks f m (at_work (begun f m start node)) u → Conditions f fitness m u
