-- What a member's private calls ask and do of calls on single objects, while it is at work in an event: at the owner, and the Asks and
-- Answers that bring them there and their replies back.
use Rattle.std.specs.Prelude.{◌≡◌, ◌==◌, ◌++◌, ℕ, Bool, false, List, [], Option, None, Some, slice_index_or}
use Rattle.orca_base.specs.declared.ids.CallNo.{CallNo}
use Rattle.orca_base.specs.declared.ids.ObjectId.{ObjectId}
use Rattle.orca_base.specs.declared.ids.ProcessNo.{ProcessNo}
use Rattle.value_core.specs.declared.action.Action.{Action}
use Rattle.value_core.specs.declared.action.Action.TheVariants as action
use Rattle.value_core.specs.declared.message.Message.{Message}
use Rattle.guard_queue.specs.declared.queue.Suspended.{Suspended}
use Rattle.object_manager.specs.Applies.{CopiesBlocked, CopiesFit}
use Rattle.object_manager.specs.State.{message_of}
use Rattle.group_rules.specs.Sets.{with_at}
use Rattle.world_rules.specs.Frame.{Frame}
use Rattle.world_rules.specs.Mail as mail
use Rattle.world_rules.specs.Nodes as nodes
use Rattle.world_rules.specs.Nodes.{NodeWork, entries_of, known, plays}
use Rattle.world_rules.specs.Owners.{sends_given}
use Rattle.world_rules.specs.Parts.{asks, reads}
use Rattle.world_rules.specs.Played.{Played, moves_to, next_call}
use Rattle.world_rules.specs.Played.Stage.{Acting, Asking, Reading}
use Rattle.world_rules.specs.Processes.{home_in, owner_in}
use Rattle.node_rules.specs.Conditions.{AreSmall, Fitness, MayTake, MayTakeCall}
use Rattle.node_rules.specs.Moments.{Moment, works}
use Rattle.node_core.specs.Pieces.{HasPut, MayCallHere, MayTry}
use Rattle.node_parts.specs.Shown.{Left, Stood}
use Rattle.node_core.specs.Stands.{IsAt, IsWork}
use Rattle.node_parts.specs.declared.errand.Given.{Given}
use Rattle.node_core.specs.declared.node.Node.{Node}
use Rattle.node_parts.specs.declared.resident.Resident.{Resident}
use Rattle.node_parts.specs.declared.resident.Stage.{Stage}
use Rattle.node_parts.specs.declared.resident.Stage.TheVariants as at_stage
use Rattle.node_core.specs.declared.work.Work.{Work}

-- ---- the processes here

-- nothing changed but the stage of this process, which has no task out then; one that isn't here changes nothing
abbrev pub HasMoved : {P S : Type 0} → ℕ → Stage → Option (Resident S) → Node P S → Node P S → Type 0
HasMoved process stage None old new = new ≡ old
HasMoved process stage (Some s) old new = HasPut process (record s { stage = stage; out = None }) old new

-- ---- Answers that are kept

-- the last Answer that it gave the process of this number
abbrev pub given_at : {P S : Type 0} → Node P S → ℕ → Option Given
given_at s i = slice_index_or s.given.items i None

-- which call it answered
abbrev pub call_given : Option Given → Option CallNo
call_given None = None
call_given (Some given) = Some given.call

-- nothing changed but the Answer that is kept for this process, which is this one
pub record HasKept {P S : Type 0} (process : ℕ) (given : Given) (old new : Work P S) : Type 0 where
  pub others : new ≡ record old { node = record old.node { given = new.node.given } }
  pub kept : (i : ℕ) → given_at new.node i ≡ with_at (given_at old.node) process (Some given) i

-- the kept Answer goes out again, where there is one
abbrev pub gives_kept : Frame → ℕ → ProcessNo → Option nodes.Given → NodeWork → NodeWork
gives_kept f m process None v = v
gives_kept f m process (Some given) v = sends_given m (home_in (known f v.node) process.0) process given v

-- ---- at the owner

-- it is some work of the world at which the call may be performed
abbrev pub MayPerformCall : {P S : Type 0} → Stood S → Left S → Frame → Fitness → Message → Work P S → Type 0
MayPerformCall stood left f fitness x s = (m : ℕ) × (v : NodeWork) × IsWork stood left f m s v × MayCallHere f fitness v.node x

-- its copies are as their calls ask, and its numbers are small
pub record IsReady (f : Frame) (fitness : Fitness) (node : nodes.Node) : Type 0 where
  pub fits : CopiesFit fitness.state fitness.args node.copies
  pub blocked : CopiesBlocked f.performs node.copies
  pub small : AreSmall node

-- it is some work of the world at which an Ask or an Answer may be taken
abbrev pub MayTakeNext : {P S : Type 0} → Stood S → Left S → Frame → Fitness → mail.Errand → Work P S → Type 0
MayTakeNext stood left f fitness errand s =
    (m : ℕ) × (v : NodeWork) × IsWork stood left f m s v × IsReady f fitness v.node × MayTake f fitness v.node errand

-- so may a call that wasn't answered
abbrev pub MayTakeNew : {P S : Type 0} → Stood S → Left S → Frame → Fitness → Message → Work P S → Type 0
MayTakeNew stood left f fitness x s =
    (m : ℕ) × (v : NodeWork) × IsWork stood left f m s v × IsReady f fitness v.node × MayTakeCall f fitness v.node x

-- ---- what a process asks

-- a resident at this stage, with so many replies, asks this call of an owner
abbrev pub asks_as : Stage → ℕ → CallNo → Bool
asks_as (at_stage.Asking act) calls call = calls == call.0
asks_as at_stage.Computing calls call = false
asks_as (at_stage.Acting act) calls call = false
asks_as (at_stage.Submitted act) calls call = false
asks_as (at_stage.Reading act) calls call = false
asks_as (at_stage.Over act) calls call = false

abbrev pub asks_call : {S : Type 0} → Option (Resident S) → CallNo → Bool
asks_call None call = false
asks_call (Some s) call = asks_as s.stage s.calls call

-- what process i asks with this action as its next call: its own place, the object, and the message
abbrev pub asked_by : ℕ → ℕ → ℕ → Action → Option (ℕ × ObjectId × Message)
asked_by place i calls (action.Call kind op object args) =
    Some (
      place,
      object,
      message_of
          (record { process = record { 0 = i }; call = record { 0 = calls }; kind = kind; op = op; object = object; args = args }),
    )
asked_by place i calls (action.Make kind object) = None
asked_by place i calls (action.Fork text args place_on) = None
asked_by place i calls action.Ended = None
asked_by place i calls (action.Faulted fault) = None

abbrev pub asked_as : ℕ → ℕ → ℕ → Stage → Option (ℕ × ObjectId × Message)
asked_as place i calls (at_stage.Asking act) = asked_by place i calls act
asked_as place i calls at_stage.Computing = None
asked_as place i calls (at_stage.Acting act) = None
asked_as place i calls (at_stage.Submitted act) = None
asked_as place i calls (at_stage.Reading act) = None
asked_as place i calls (at_stage.Over act) = None

-- what process i asks of an owner, where it is here and does
abbrev pub asked_at : {S : Type 0} → ℕ → Option (Resident S) → Option (ℕ × ObjectId × Message)
asked_at i None = None
asked_at i (Some s) = asked_as s.place i s.calls s.stage

-- ---- what is at hand

-- it is at some moment at which the conditions hold, with nothing at hand
abbrev pub IsFree : {P S : Type 0} → Stood S → Left S → Frame → Fitness → Work P S → Type 0
IsFree stood left f fitness s = (m : ℕ) × (u : Moment) × IsAt stood left f fitness m s [] u

-- at whichever such moment it was, it is at the piece of that, with nothing at hand again
abbrev pub GoesFree : {P S : Type 0} → Stood S → Left S → Frame → Fitness → Work P S → Work P S → (ℕ → NodeWork → NodeWork) → Type 0
GoesFree stood left f fitness old new piece =
    (m : ℕ) (u : Moment) → IsAt stood left f fitness m old [] u → IsAt stood left f fitness m new [] (works (piece m u.work) u)

-- at whichever such moment it was, these messages stand behind the entries that its copies had applied, once the piece is done
abbrev pub HasGathered : {P S : Type 0} → Stood S → Left S → Frame → Fitness → Work P S → List Message → (ℕ → NodeWork → NodeWork) → Type 0
HasGathered stood left f fitness old messages piece =
    (m : ℕ) (u : Moment) → IsAt stood left f fitness m old [] u → entries_of u.work.node ++ messages ≡ entries_of (piece m u.work).node

-- ---- an Act's first piece

-- it is the call at which process i, which is r, wasn't carried out: its next one, on this object, by this message
pub record IsCallOf (i : ℕ) (r : Played) (object : ObjectId) (x : Message) (call : Suspended) : Type 0 where
  pub process : call.process ≡ record { 0 = i }
  pub number : call.call ≡ next_call r
  pub on : call.object ≡ object
  pub message : x ≡ message_of call
  pub stage : r.stage ≡ Acting (message_of call).action

-- it is some work of the world with process i at this call, which may be performed with the process asking, where the object is this
-- member's
pub record MayAsk {P S : Type 0} (stood : Stood S) (left : Left S) (f : Frame) (fitness : Fitness) (i : ℕ) (object : ObjectId) (x : Message)
    (s : Work P S) : Type 0 where
  pub member : ℕ
  pub work : NodeWork
  pub played : Played
  pub call : Suspended
  pub is : IsWork stood left f member s work
  pub here : work.node.played i ≡ Some played
  pub calls : IsCallOf i played object x call
  pub owned :
      owner_in (known f work.node) call.object ≡ member →
      MayCallHere f fitness (plays i (moves_to (Asking (message_of call).action) played) work).node (message_of call)

-- whichever work of this run it was, with process i at this call, it asks that
abbrev pub Asks : {P S : Type 0} → Stood S → Left S → Frame → ℕ → ObjectId → Message → Work P S → Work P S → Type 0
Asks stood left f i object x old new =
    (m : ℕ) (v : NodeWork) (r : Played) (call : Suspended) → IsWork stood left f m old v → v.node.played i ≡ Some r →
    IsCallOf i r object x call → IsWork stood left f m new (asks f m i r call v)

-- it is some work of the world with process i at this action, which may be tried, with the process reading
pub record MayReadFirst {P S : Type 0} (stood : Stood S) (left : Left S) (f : Frame) (fitness : Fitness) (i : ℕ) (act : Action)
    (s : Work P S) : Type 0 where
  pub member : ℕ
  pub work : NodeWork
  pub played : Played
  pub is : IsWork stood left f member s work
  pub here : work.node.played i ≡ Some played
  pub stage : played.stage ≡ Acting act
  pub may : MayTry fitness i (plays i (moves_to (Reading act) played) work).node

-- whichever work of this run it was, with process i at this action, it is performed or waits
abbrev pub ReadsFirst : {P S : Type 0} → Stood S → Left S → Frame → ℕ → Action → Work P S → Work P S → Type 0
ReadsFirst stood left f i act old new =
    (m : ℕ) (v : NodeWork) (r : Played) → IsWork stood left f m old v → v.node.played i ≡ Some r → r.stage ≡ Acting act →
    IsWork stood left f m new (reads f i r act v)
