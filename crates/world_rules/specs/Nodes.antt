-- A member of a run with its copies and processes, and what it does in one event.
use Rattle.std.specs.Prelude.{ℕ, zero, suc, List, [], ◌∷◌, ◌++◌, Option, None, Some, map, take}
use Rattle.orca_base.specs.declared.ids.CallNo.{CallNo}
use Rattle.value_core.specs.declared.action.Line.{Line}
use Rattle.value_core.specs.declared.action.Reply.{Reply}
use Rattle.value_core.specs.declared.message.Message.{Message}
use Rattle.object_manager.specs.After.{Copied, opening_copies}
use Rattle.book_law.specs.declared.placing.Placed.{Placed}
use Rattle.group_rules.specs.Member.{Member, nobody, opening_member}
use Rattle.group_rules.specs.Messages.{Group}
use Rattle.group_rules.specs.Sets.{with_at}
use Rattle.group_rules.specs.Work.{Act, Work}
use Rattle.group_rules.specs.World.{Past, remembers, submitted_past}
use Rattle.world_rules.specs.Frame.{Frame}
use Rattle.world_rules.specs.Mail.{Errand, Mail}
use Rattle.world_rules.specs.Played.{Played, newborn}
use Rattle.world_rules.specs.Processes.{Begun, first_process, processes_in}

-- the last Answer that an owner gave a process of another member: its place, its call, its reply
pub record Given : Type 0 where
  pub place : ℕ
  pub call : CallNo
  pub reply : Reply

-- its state in the group; its copies; the processes that began here; the Asks and Answers that came and whose place it hasn't reached,
-- in order of arrival; and the last Answer that it gave each process of another member
pub record Node : Type 0 where
  pub member : Member Message
  pub copies : Copied
  pub played : ℕ → Option Played
  pub held : List Errand
  pub given : ℕ → Option Given

-- before the first event: process 0 is on member 0
abbrev pub opening_processes : Frame → ℕ → ℕ → Option Played
opening_processes f zero = with_at nobody 0 (Some (newborn (first_process f)))
opening_processes f (suc m) = nobody

abbrev pub opening_node : Frame → ℕ → Node
opening_node f m = record {
  member = opening_member;
  copies = opening_copies;
  played = opening_processes f m;
  held = [];
  given = nobody;
}

-- ---- one event's work

-- what a member does: a message of its process is submitted; it acts in the group; it sends an Ask or an Answer; it applies an entry, with
-- these lines; it performs a line beside the list
pub data Deed : Type 0 where
  Submits : (message : Message) → Deed
  Acts : (act : Act Message) → Deed
  Mails : (mail : Mail) → Deed
  Applies : (lines : List Line) → Deed
  Performs : (performed : Placed) → Deed

-- the node so far, and what it did so far, the last first
pub record NodeWork : Type 0 where
  pub node : Node
  pub deeds : List Deed

abbrev pub idle : Node → NodeWork
idle node = record { node = node; deeds = [] }

abbrev pub becomes : Node → NodeWork → NodeWork
becomes node v = record { node = node; deeds = v.deeds }

abbrev pub does : Deed → NodeWork → NodeWork
does deed v = record { node = v.node; deeds = deed ∷ v.deeds }

-- a step of its member in the group
abbrev pub joins : Work Message → NodeWork → NodeWork
joins work v = record { node = record v.node { member = work.state }; deeds = map Acts work.acts ++ v.deeds }

-- the processes that it knows: those of the entries that its copies applied
abbrev pub entries_of : Node → List Message
entries_of node = take node.copies.applied node.member.log

abbrev pub known : Frame → Node → List Begun
known f node = processes_in f (entries_of node)

-- a process that began here stands so
abbrev pub plays : ℕ → Played → NodeWork → NodeWork
plays i r v = becomes (record v.node { played = with_at v.node.played i (Some r) }) v

abbrev pub if_played : (Played → Played) → ℕ → Option Played → NodeWork → NodeWork
if_played change i None v = v
if_played change i (Some r) v = plays i (change r) v

-- a process changes, where it began here
abbrev pub changes : (Played → Played) → ℕ → NodeWork → NodeWork
changes change i v = if_played change i (v.node.played i) v

-- ---- what is left of it in the world

-- the letters that it sent, in order
abbrev pub mails_of : List Deed → List Mail
mails_of [] = []
mails_of (Submits x ∷ deeds) = mails_of deeds
mails_of (Acts (Act.Sends letter) ∷ deeds) = mails_of deeds ++ Mail.Grouped letter ∷ []
mails_of (Acts (Act.Keeps packet) ∷ deeds) = mails_of deeds
mails_of (Acts (Act.Orders k x) ∷ deeds) = mails_of deeds
mails_of (Acts (Act.Begins k log answers) ∷ deeds) = mails_of deeds
mails_of (Mails mail ∷ deeds) = mails_of deeds ++ mail ∷ []
mails_of (Applies lines ∷ deeds) = mails_of deeds
mails_of (Performs performed ∷ deeds) = mails_of deeds

-- what it performed beside the list, in order
abbrev pub aside_of : List Deed → List Placed
aside_of [] = []
aside_of (Submits x ∷ deeds) = aside_of deeds
aside_of (Acts act ∷ deeds) = aside_of deeds
aside_of (Mails mail ∷ deeds) = aside_of deeds
aside_of (Applies lines ∷ deeds) = aside_of deeds
aside_of (Performs performed ∷ deeds) = aside_of deeds ++ performed ∷ []

-- the group's past after them
abbrev pub past_after : Group Message → ℕ → List Deed → Past Message → Past Message
past_after g m [] past = past
past_after g m (Submits x ∷ deeds) past = submitted_past g m x (past_after g m deeds past)
past_after g m (Acts act ∷ deeds) past = remembers act (past_after g m deeds past)
past_after g m (Mails mail ∷ deeds) past = past_after g m deeds past
past_after g m (Applies lines ∷ deeds) past = past_after g m deeds past
past_after g m (Performs performed ∷ deeds) past = past_after g m deeds past
