-- What a member's private calls ask and do, while it is at work in an event: each is a piece of the world's rules.
use Rattle.std.specs.Prelude.{◌≡◌, ◌+◌, if◌then◌else◌, ◌<◌, ◌^◌, ℕ, List, length, Option, None, Some, slice_index_or}
use Rattle.orca_base.specs.declared.ids.KindNo.{KindNo}
use Rattle.orca_base.specs.declared.ids.OpNo.{OpNo}
use Rattle.orca_base.specs.declared.ids.ObjectId.{ObjectId}
use Rattle.value_core.specs.Datum.{Data}
use Rattle.value_core.specs.History.{Objects}
use Rattle.value_core.specs.Meaning.{Performs}
use Rattle.value_core.specs.declared.action.Action.{Action}
use Rattle.value_core.specs.declared.action.Action.TheVariants as action
use Rattle.value_core.specs.declared.action.Line.{Line}
use Rattle.value_core.specs.declared.action.Reply.{Reply}
use Rattle.value_core.specs.declared.message.Message.{Message}
use Rattle.value_core.specs.declared.meaning.Tried.{Tried}
use Rattle.guard_queue.specs.Settles.{guard_of, is_blocked, reply_of}
use Rattle.history_buffer.specs.Slots.{slot_at}
use Rattle.history_buffer.specs.declared.history.Slot.TheVariants.{Found}
use Rattle.object_manager.specs.Applies.{CopiesBlocked, CopiesFit}
use Rattle.object_manager.specs.Viewed.{ReadFits}
use Rattle.book_law.specs.Fitness.{ArgsFit, ReplyFits, StateFits}
use Rattle.group_rules.specs.Sets.{with_at}
use Rattle.world_rules.specs.Bursts.{read_on}
use Rattle.world_rules.specs.Frame.{Frame}
use Rattle.world_rules.specs.Nodes.{NodeWork}
use Rattle.world_rules.specs.Nodes as nodes
use Rattle.world_rules.specs.Played.{Played, receives}
use Rattle.world_rules.specs.Played.Stage.{Reading}
use Rattle.node_rules.specs.Conditions.{AreSmall, Fitness, MayPerform}
use Rattle.node_rules.specs.Handing.{MayReceive}
use Rattle.node_rules.specs.Moments.{Moment, works}
use Rattle.node_parts.specs.Shown.{IsPlayed, Left, Stood}
use Rattle.node_core.specs.Stands.{IsAt, IsWork}
use Rattle.node_parts.specs.declared.errand.Errand.{Errand}
use Rattle.node_core.specs.declared.node.Node.{Node}
use Rattle.node_parts.specs.declared.resident.Resident.{Resident}
use Rattle.node_parts.specs.declared.resident.Stage.{Stage}
use Rattle.node_parts.specs.declared.resident.Stage.TheVariants as at_stage
use Rattle.node_core.specs.declared.work.Work.{Work}

-- ---- the processes here

-- the process of this number, where it began here
abbrev pub resident_at : {P S : Type 0} → Node P S → ℕ → Option (Resident S)
resident_at s i = slice_index_or s.residents.items i None

-- nothing changed but the process of this number, which is there and is this one
pub record HasPut {P S : Type 0} (process : ℕ) (resident : Resident S) (old new : Node P S) : Type 0 where
  pub others : new ≡ record old { residents = new.residents }
  pub put : (i : ℕ) → resident_at new i ≡ with_at (resident_at old) process (Some resident) i

-- the resident waits with an action that can get this reply
pub record CanReceive {S : Type 0} (stood : Stood S) (left : Left S) (fits_reply : ReplyFits) (s : Resident S) (reply : Reply) : Type 0 where
  pub number : ℕ
  pub played : Played
  pub act : Action
  pub is : IsPlayed stood left number s played
  pub may : MayReceive fits_reply played act reply
  pub small : length played.replies < 2 ^ 62

-- whichever process it was, it is that with this reply
abbrev pub Received : {S : Type 0} → Stood S → Left S → ℕ → Reply → Resident S → Resident S → Type 0
Received stood left place reply old new =
    (i : ℕ) (r : Played) → IsPlayed stood left i old r → IsPlayed stood left i new (receives place reply r)

-- where process i is here, it can receive this
abbrev pub MayBeHanded : {S : Type 0} → Stood S → Left S → ReplyFits → ℕ → Reply → Option (Resident S) → Type 0
MayBeHanded stood left fits_reply i reply None = Unit {0}
MayBeHanded stood left fits_reply i reply (Some s) = CanReceive stood left fits_reply s reply

-- ---- pieces

-- whichever work of the world it was, in whichever run, it is the piece of that
abbrev pub Becomes : {P S : Type 0} → Stood S → Left S → Work P S → Work P S → (Frame → ℕ → NodeWork → NodeWork) → Type 0
Becomes stood left old new piece =
    (f : Frame) (m : ℕ) (v : NodeWork) → IsWork stood left f m old v → IsWork stood left f m new (piece f m v)

-- it is at some moment at which the conditions hold
abbrev pub IsSomewhere : {P S : Type 0} → Stood S → Left S → Frame → Fitness → Work P S → Type 0
IsSomewhere stood left f fitness s =
    (m : ℕ) × (hand : List Errand) × (u : Moment) × IsAt stood left f fitness m s hand u

-- at whichever moment it was, it is at the piece of that
abbrev pub GoesOn : {P S : Type 0} → Stood S → Left S → Frame → Fitness → Work P S → Work P S → (ℕ → NodeWork → NodeWork) → Type 0
GoesOn stood left f fitness old new piece =
    (m : ℕ) (hand : List Errand) (u : Moment) → IsAt stood left f fitness m old hand u →
    IsAt stood left f fitness m new hand (works (piece m u.work) u)

-- ---- a read

-- the line of the resident's read, by what its try gave; none, where all guards are false
abbrev pub line_if : {S : Type 0} → ℕ → Resident S → Action → Tried → Option Line
line_if i s act t =
    if is_blocked t then None
    else Some (record { process = record { 0 = i }; call = record { 0 = s.calls }; action = act; guard = guard_of t; reply = reply_of t })

abbrev pub line_as : {S : Type 0} → Performs → Objects → ℕ → Resident S → Stage → Option Line
line_as p objects i s (at_stage.Reading act) = line_if i s act (read_on p objects act)
line_as p objects i s at_stage.Computing = None
line_as p objects i s (at_stage.Acting act) = None
line_as p objects i s (at_stage.Submitted act) = None
line_as p objects i s (at_stage.Asking act) = None
line_as p objects i s (at_stage.Over act) = None

-- the line of process i's read, where it is here and waits with one that these objects answer
abbrev pub line_read : {S : Type 0} → Performs → Objects → ℕ → Option (Resident S) → Option Line
line_read p objects i None = None
line_read p objects i (Some s) = line_as p objects i s s.stage

-- a call with this action may be tried on these objects
abbrev pub MayRead : StateFits → ArgsFit → Objects → Action → Type 0
MayRead state args objects (action.Call kind op object given) = ReadFits state args objects kind op object given
MayRead state args objects (action.Make kind object) = Unit {0}
MayRead state args objects (action.Fork text given place_on) = Unit {0}
MayRead state args objects action.Ended = Unit {0}
MayRead state args objects (action.Faulted fault) = Unit {0}

abbrev pub MayReadAs : StateFits → ArgsFit → Objects → Stage → Type 0
MayReadAs state args objects (at_stage.Reading act) = MayRead state args objects act
MayReadAs state args objects at_stage.Computing = Unit {0}
MayReadAs state args objects (at_stage.Acting act) = Unit {0}
MayReadAs state args objects (at_stage.Submitted act) = Unit {0}
MayReadAs state args objects (at_stage.Asking act) = Unit {0}
MayReadAs state args objects (at_stage.Over act) = Unit {0}

-- so may the read of a process, where it is here and waits with one
abbrev pub MayReadAt : {S : Type 0} → StateFits → ArgsFit → Objects → Option (Resident S) → Type 0
MayReadAt state args objects None = Unit {0}
MayReadAt state args objects (Some s) = MayReadAs state args objects s.stage

-- a read with which process i waits may be tried at this node
pub record MayTry (fitness : Fitness) (i : ℕ) (node : nodes.Node) : Type 0 where
  pub reads :
      (r : Played) (kind : KindNo) (op : OpNo) (object : ObjectId) (given : Data) →
      node.played i ≡ Some r → r.stage ≡ Reading (action.Call kind op object given) →
      ReadFits fitness.state fitness.args node.copies.objects kind op object given
  pub small : AreSmall node

-- it is some work of the world in which that may be tried
abbrev pub MayTryRead : {P S : Type 0} → Stood S → Left S → Frame → Fitness → ℕ → Work P S → Type 0
MayTryRead stood left f fitness i s = (m : ℕ) × (v : NodeWork) × IsWork stood left f m s v × MayTry fitness i v.node

-- whichever work of this run it was, it is the piece of that
abbrev pub BecomesIn : {P S : Type 0} → Stood S → Left S → Frame → Work P S → Work P S → (ℕ → NodeWork → NodeWork) → Type 0
BecomesIn stood left f old new piece = (m : ℕ) (v : NodeWork) → IsWork stood left f m old v → IsWork stood left f m new (piece m v)

-- a call on a single object may be performed at this node
pub record MayCallHere (f : Frame) (fitness : Fitness) (node : nodes.Node) (x : Message) : Type 0 where
  pub fits : CopiesFit fitness.state fitness.args node.copies
  pub blocked : CopiesBlocked f.performs node.copies
  pub small : AreSmall node
  pub may : MayPerform f fitness node x

-- ---- the next entry

-- the member keeps this message as the one behind those that the copies applied
pub record IsNext {P S : Type 0} (s : Node P S) (x : Message) : Type 0 where
  pub there : slot_at s.member.window (s.copies.applied + 1) ≡ Found x
  pub room : s.copies.applied < 2 ^ 62
