-- Asks and Answers, as the course has them. They may be lost, repeated and reordered: each stands for itself.
use Rattle.std.specs.Prelude.{◌≡◌, ◌<◌, ◌≤◌, ◌⊎◌, ℕ, true, false, Some}
use Rattle.orca_base.specs.declared.ids.ObjectId.{ObjectId}
use Rattle.orca_base.specs.declared.ids.CallNo.{CallNo}
use Rattle.orca_base.specs.declared.ids.ProcessNo.{ProcessNo}
use Rattle.value_core.specs.declared.action.Line.{Line}
use Rattle.value_core.specs.declared.action.Reply.{Reply}
use Rattle.value_core.specs.declared.message.Message.{Message}
use Rattle.net_rules.specs.declared.flight.Flight.{Flight}
use Rattle.guard_queue.specs.declared.queue.Suspended.{Suspended}
use Rattle.object_manager.specs.State.{message_of}
use Rattle.book_law.specs.Passes.{Test}
use Rattle.book_law.specs.declared.placing.Placed.{Placed}
use Rattle.book_law.specs.Course.{Course}
use Rattle.book_law.specs.Events.{Calls, In, Runner}
use Rattle.world_rules.specs.Frame.{Frame}
use Rattle.world_rules.specs.Nodes.{Given, Node, NodeWork}
use Rattle.world_rules.specs.Played.{Played, Stage, next_call}
use Rattle.world_rules.specs.Played.Stage.{Computing, Acting, Submitted, Reading, Asking, Over}
use Rattle.world_rules.specs.Mail.{Carried, Errand, Mail}
use Rattle.world_rules.specs.Mail.Errand.{Ask, Answer}
use Rattle.world_rules.specs.Worlds.{World}
use Rattle.world_course.specs.Chain.{Leads}
use Rattle.world_course.specs.Corresponds.{Corresponds, IsOf}

-- the process began at another member
pub record IsElsewhere (f : Frame) (c : Course) (m j : ℕ) : Type 0 where
  pub home : ℕ
  pub of : IsOf f c home j
  pub other : home ≡ m → ⊥

-- an Ask that comes to member m: a message that was submitted, a call on a single object whose owner m is, of a process elsewhere; while
-- the process has it out, the process's place isn't above the Ask's
pub record IsAsk (f : Frame) (single : Test) (c : Course) (m place : ℕ) (x : Message) : Type 0 where
  pub call : Suspended
  pub is : x ≡ message_of call
  pub among : In x c.asked
  pub alone : single call.object ≡ true
  pub owner : IsOf f c m call.object.process
  pub elsewhere : IsElsewhere f c m x.process.0
  pub covers : (r : Runner) → c.runners x.process.0 ≡ Some r → r.message ≡ Some x → r.place ≤ place

-- an Answer: its line stands beside the list, at its place
pub record IsAnswer (c : Course) (at_place : ℕ) (i : ProcessNo) (number : CallNo) (says : Reply) : Type 0 where
  pub line : Placed
  pub there : In line c.aside
  pub place : line.place ≡ at_place
  pub process : line.line.process ≡ i
  pub call : line.line.call ≡ number
  pub reply : line.line.reply ≡ says

abbrev pub ErrandStands : Frame → Test → Course → ℕ → Errand → Type 0
ErrandStands f single c m (Ask place x) = IsAsk f single c m place x
ErrandStands f single c m (Answer place i call reply) = IsAnswer c place i call reply

-- ---- all that are at work

-- a letter of the group, or an Ask or Answer that stands at its receiver
abbrev pub MailStands : Frame → Test → Course → Mail → Type 0
MailStands f single c (Mail.Grouped letter) = Unit {0}
MailStands f single c (Mail.Sends incarnation from to errand) = ErrandStands f single c to errand

-- the object is single, and the member knows its maker
pub record IsAlone (single : Test) (node : Node) (object : ObjectId) : Type 0 where
  pub alone : single object ≡ true
  pub maker : object.process < node.copies.processes

-- a process asks the owner of this object; it waits to read it, or its call on it was submitted to the group
abbrev pub AsksFor : Stage → ObjectId → Type 0
AsksFor Computing object = ⊥
AsksFor (Acting act) object = ⊥
AsksFor (Submitted act) object = ⊥
AsksFor (Reading act) object = ⊥
AsksFor (Asking act) object = Calls act object
AsksFor (Over act) object = ⊥

abbrev pub WaitsOn : Stage → ObjectId → Type 0
WaitsOn Computing object = ⊥
WaitsOn (Acting act) object = ⊥
WaitsOn (Submitted act) object = Calls act object
WaitsOn (Reading act) object = Calls act object
WaitsOn (Asking act) object = ⊥
WaitsOn (Over act) object = ⊥

-- at member m: Asks and Answers that wait for their place stand, and so does each Answer that it keeps; who asks an owner asks it of a
-- single object, and who waits for the group, or with a read, does so for a replicated one
pub record NodeStands (f : Frame) (single : Test) (c : Course) (m : ℕ) (node : Node) : Type 0 where
  pub held : (errand : Errand) → In errand node.held → ErrandStands f single c m errand
  pub given : (i : ProcessNo) (one : Given) → node.given i.0 ≡ Some one → IsAnswer c one.place i one.call one.reply
  pub asks : (j : ℕ) (r : Played) (object : ObjectId) → node.played j ≡ Some r → AsksFor r.stage object → IsAlone single node object
  pub shares : (j : ℕ) (r : Played) (object : ObjectId) → node.played j ≡ Some r → WaitsOn r.stage object → single object ≡ false

-- the Answer that the member keeps for the line's process is of this call, or of a later one
pub record IsGiven (node : Node) (line : Line) : Type 0 where
  pub given : Given
  pub there : node.given line.process.0 ≡ Some given
  pub call : line.call.0 ≤ given.call.0

-- the object's owner performed this line, for a process of its own, or it keeps the Answer
pub record WasPerformed (f : Frame) (w : World) (c : Course) (line : Line) (object : ObjectId) : Type 0 where
  pub owner : ℕ
  pub of : IsOf f c owner object.process
  pub told : IsOf f c owner line.process.0 ⊎ IsGiven (w.nodes owner) line

-- so it is at each member, with all that travels, and with each call on a single object that stands beside the list
pub record AllStand (f : Frame) (single : Test) (w : World) (c : Course) : Type 0 where
  pub nodes : (m : ℕ) → NodeStands f single c m (w.nodes m)
  pub travels : (flight : Flight Carried) → In flight w.flights → MailStands f single c flight.packet.mail
  pub performed :
      (r : Placed) (object : ObjectId) → In r c.aside → Calls r.line.action object → single object ≡ true →
      WasPerformed f w c r.line object

-- the world stands for the course, and so does each Ask and Answer
pub record Follows (f : Frame) (single : Test) (w : World) (c : Course) : Type 0 where
  pub corresponds : Corresponds f single w c
  pub errands : AllStand f single w c

-- a world that comes from one that follows a course: it follows one that comes from that one's
abbrev pub FollowsOn : Frame → Test → Course → World → Type 0
FollowsOn f single c v = (d : Course) × Leads single f.performs f.computes c d × Follows f single v d

-- ---- calls and callers

-- the member at work is the owner of this call's object; the call is the message that its process has out, hasn't entered, and the owner
-- applied as many entries as the process's place says
pub record MayTake (f : Frame) (single : Test) (c : Course) (m : ℕ) (call : Suspended) (v : NodeWork) : Type 0 where
  pub runner : Runner
  pub runs : c.runners call.process.0 ≡ Some runner
  pub out : runner.message ≡ Some (message_of call)
  pub new : In (message_of call) c.entered → ⊥
  pub alone : single call.object ≡ true
  pub owner : IsOf f c m call.object.process
  pub reached : runner.place ≤ v.node.copies.applied

-- process i of member m, which owns the call's object, is at this call, and no more than that happened
pub record IsCaller (f : Frame) (single : Test) (c : Course) (m i : ℕ) (r : Played) (call : Suspended) (v : NodeWork) : Type 0 where
  pub here : v.node.played i ≡ Some r
  pub acts : r.stage ≡ Acting (message_of call).action
  pub process : call.process ≡ record { 0 = i }
  pub number : call.call ≡ next_call r
  pub alone : single call.object ≡ true
  pub owner : IsOf f c m call.object.process
