-- Calls on single objects, computed: a whole run with a repeated Ask, and single steps of Asks and Answers.
use Rattle.std.specs.Prelude.{◌≡◌, IsTrue, ℕ, true, List, [], ◌∷◌, ◌++◌, length, map, Some, refl}
use Rattle.group_packets.specs.declared.packet.Packet.{Packet}
use Rattle.group_packets.specs.declared.packet.Packet.TheVariants as packet
use Rattle.group_packets.specs.declared.packet.PacketKind.TheVariants as kind
use Rattle.group_rules.specs.OnWire.{Posted}
use Rattle.group_rules.specs.Sets.{with_at}
use Rattle.net_rules.specs.declared.asked.Asked.{Asked}
use Rattle.net_rules.specs.declared.asked.Asked.TheVariants as asked
use Rattle.net_rules.specs.declared.fate.Fate.TheVariants as fate
use Rattle.orca_base.specs.declared.what.Choice.TheVariants.{Single}
use Rattle.value_core.specs.Datum as datum
use Rattle.value_core.specs.Performable.{is_performable}
use Rattle.value_core.specs.declared.action.Action.{Action}
use Rattle.value_core.specs.declared.action.Action.TheVariants as action
use Rattle.value_core.specs.declared.action.Line.{Line}
use Rattle.value_core.specs.declared.action.Reply.{Reply}
use Rattle.value_core.specs.declared.action.Reply.TheVariants as answer
use Rattle.value_core.specs.declared.message.Message.{Message}
use Rattle.value_core.specs.History.{Legal, object_at, objects_of}
use Rattle.value_core.specs.Meaning.{Computes}
use Rattle.world_rules.specs.declared.standing.PlaceNote.TheVariants as note
use Rattle.world_rules.specs.declared.standing.Standing.TheVariants.{Finished}
use Rattle.world_rules.specs.Frame.{Frame}
use Rattle.world_rules.specs.LostEntry.{handed}
use Rattle.world_rules.specs.Mail.{Errand, Mail, posted}
use Rattle.world_rules.specs.Mail.Errand.{Ask, Answer}
use Rattle.world_rules.specs.Nodes.{Node, NodeWork, idle, mails_of}
use Rattle.world_rules.specs.OneCell.{passes}
use Rattle.world_rules.specs.Parts.{catches_up, receives, ticks}
use Rattle.world_rules.specs.Played.{Played, at_action}
use Rattle.world_rules.specs.Played.Stage.{Computing, Asking}
use Rattle.world_rules.specs.Programs.{assign, cell, fork_on, frame_of, gives, line, make, performs, runner, take_out, two_texts, write}
use Rattle.world_rules.specs.Scenes.{Scene, act, burst, deliver, one, second_copy, steps_of, world_after}
use Rattle.world_rules.specs.Standings.{standing}
use Rattle.world_rules.specs.Steps.{Replays, asked_of}
use Rattle.world_rules.specs.Worlds.{Book, World, opening_world, places}

-- ---- a whole run on two members. Process 0 makes the cell, which is single, forks process 1 on member 1, and takes the integer out, for
-- which it waits. Process 1 assigns 6 by an Ask, which comes twice

abbrev pub cell_program : Computes
cell_program = two_texts (make ∷ fork_on 1 ∷ take_out ∷ []) (assign 6 ∷ [])

abbrev pub single_cell : Frame
single_cell = frame_of 2 0 ((Single ∷ []) ∷ []) cell_program

abbrev pub first_at : List Reply → ℕ → Action → Played
first_at replies place act = runner 0 datum.none replies place (at_action act)

abbrev pub second_at : List Reply → ℕ → Action → Played
second_at replies place act = runner 1 handed replies place (at_action act)

-- up to where the owner's process waits, and the other has begun
abbrev pub until_begun : List Scene
until_begun =
    burst 0 0 [] (first_at [] 0 make) ∷ act 0 one
    ∷ burst 0 1 [] (first_at (answer.Done ∷ []) 1 (fork_on 1)) ∷ act 0 one
    ∷ burst 0 2 [] (first_at (answer.Done ∷ answer.Done ∷ []) 2 take_out) ∷ act 0 []
    ∷ deliver 1 [] ∷ deliver 2 [] ∷ []

-- and up to the Ask
abbrev pub until_asked : List Scene
until_asked = until_begun ++ burst 1 2 [] (second_at [] 2 (assign 6)) ∷ act 1 (fate.Twice ∷ []) ∷ []

abbrev pub scenes : List Scene
scenes =
    until_asked ++ deliver 3 one ∷ second_copy 3 one ∷ deliver 4 [] ∷ deliver 5 []
    ∷ burst 1 2 [] (second_at (answer.Done ∷ []) 2 action.Ended)
    ∷ burst 0 2 [] (first_at (answer.Done ∷ answer.Done ∷ gives 6 ∷ []) 2 action.Ended) ∷ []

abbrev pub world_at : List Scene → World
world_at some = world_after single_cell (opening_world single_cell) some

abbrev pub single_end : World
single_end = world_at scenes

abbrev pub single_asked : List Asked
single_asked =
    passes 1 kind.Entry 0 1 52 ∷ passes 2 kind.Entry 0 1 63
    ∷ asked.Packet (record { packet = 3; kind = kind.Ask; from = 1; to = 0; length = 48 }) fate.Twice
    ∷ passes 4 kind.Answer 0 1 28 ∷ passes 5 kind.Answer 0 1 28 ∷ []

abbrev pub single_book : List Line
single_book =
    line 0 0 make 0 answer.Done ∷ line 0 1 (fork_on 1) 0 answer.Done ∷ line 1 0 (assign 6) 0 answer.Done
    ∷ line 0 2 take_out 1 (gives 6) ∷ []

pub record SingleCell : Type 0 where
  pub replays : Replays single_cell (steps_of scenes) single_end
  pub stands : standing single_cell single_end ≡ Finished
  -- four entries and calls, of which two are entries; the repeated Ask is answered by the kept Answer
  pub asked : asked_of 0 single_end.told ≡ single_asked
  pub book : Book single_cell single_end ≡ single_book
  pub places : places single_cell single_end ≡ note.Entry 1 ∷ note.Entry 2 ∷ note.Single 2 ∷ note.Single 2 ∷ []
  pub legal : Legal performs cell_program (Book single_cell single_end)
  -- the owner alone keeps the cell, as it is after all lines
  pub owner : object_at (single_end.nodes 0).copies.own cell ≡ object_at (objects_of performs cell_program single_book) cell
  pub other : (single_end.nodes 1).copies.own ≡ []
  pub counted : (single_end.nodes 1).copies.singles ≡ (single_end.nodes 0).copies.singles
  -- its process's call waited here
  pub waited : length ((world_at until_begun).nodes 0).copies.waits ≡ 1

-- ---- single steps

abbrev pub message : ℕ → ℕ → (a : Action) → IsTrue (is_performable a) → Message
message process number a ok =
    record { process = record { 0 = process }; call = record { 0 = number }; action = a; performable = ok }

-- the owner, which applied two entries, and the other member, whose process asks
abbrev pub owner : Node
owner = (world_at until_begun).nodes 0

abbrev pub asker : Node
asker = (world_at until_asked).nodes 1

-- a third entry is accepted at a node
abbrev pub third : Message
third = message 9 0 (write 48) refl

abbrev pub with_third : Node → Node
with_third node = record node { member = record node.member { log = node.member.log ++ third ∷ []; accepted = 3 } }

abbrev pub takes_third : ℕ → Node → NodeWork
takes_third m node = catches_up single_cell m (idle (with_third node))

abbrev pub gets : ℕ → ℕ → Errand → Node → NodeWork
gets from to errand node = receives single_cell to (Mail.Sends 0 from to errand) node

abbrev pub posts : NodeWork → List (Posted Message Reply)
posts v = map (posted 2) (mails_of v.deeds)

abbrev pub from_to : ℕ → ℕ → Packet Message Reply → Posted Message Reply
from_to from to one = record { from = from; to = to; packet = one }

-- an Ask of the call that assigns 6, with a place
abbrev pub asks_at : ℕ → Errand
asks_at place = Ask place (message 1 0 (assign 6) refl)

abbrev pub held : NodeWork
held = gets 1 0 (asks_at 3) owner

pub record AskWaits : Type 0 where
  -- the owner applied two entries and lets an Ask of place 3 wait; a repeat is dropped
  pub silent : held.deeds ≡ []
  pub waits : held.node.held ≡ asks_at 3 ∷ []
  pub repeat : (gets 1 0 (asks_at 3) held.node).node.held ≡ asks_at 3 ∷ []
  -- once it applied the third it takes the Ask: the call lets the one that waited run, and is answered by place 3
  pub taken : (takes_third 0 held.node).node.held ≡ []
  pub posts : posts (takes_third 0 held.node) ≡ from_to 0 1 (packet.Answer 0 3 (record { 0 = 1 }) (record { 0 = 0 }) answer.Done) ∷ []
  pub replied : (takes_third 0 held.node).node.played 0 ≡ Some
      (runner 0 datum.none (answer.Done ∷ answer.Done ∷ gives 6 ∷ []) 3 Computing)
  -- an outside member takes none
  pub outside : (gets 1 0 (asks_at 3) (record owner { member = record owner.member { outside = true } })).node.held ≡ []

-- a call that waits on its object
abbrev pub take_asked : Errand
take_asked = Ask 2 (message 1 0 take_out refl)

abbrev pub waiting_twice : NodeWork
waiting_twice = gets 1 0 take_asked owner

-- the last Answer to process 1 was that to its call 5
abbrev pub later_given : Node
later_given = record owner { given = with_at owner.given 1 (Some (record { place = 2; call = record { 0 = 5 }; reply = answer.Done })) }

pub record RepeatedAsk : Type 0 where
  -- a call whose Ask comes again while it waits, waits once
  pub first : length waiting_twice.node.copies.waits ≡ 2
  pub again : length (gets 1 0 take_asked waiting_twice.node).node.copies.waits ≡ 2
  pub silent : (gets 1 0 take_asked waiting_twice.node).deeds ≡ []
  -- one that was answered gets the kept Answer, with its old place, and performs nothing
  pub kept : posts (gets 1 0 (asks_at 2) ((single_end).nodes 0)) ≡
      from_to 0 1 (packet.Answer 0 2 (record { 0 = 1 }) (record { 0 = 0 }) answer.Done) ∷ []
  pub later : posts (gets 1 0 (asks_at 2) (takes_third 0 ((single_end).nodes 0)).node) ≡
      from_to 0 1 (packet.Answer 0 2 (record { 0 = 1 }) (record { 0 = 0 }) answer.Done) ∷ []
  -- an earlier call than the answered one nothing
  pub earlier : (gets 1 0 (asks_at 2) later_given).deeds ≡ []

abbrev pub answers_at : ℕ → ℕ → Errand
answers_at place call = Answer place (record { 0 = 1 }) (record { 0 = call }) answer.Done

abbrev pub answer_held : NodeWork
answer_held = gets 0 1 (answers_at 3 0) asker

pub record AnswerWaits : Type 0 where
  pub asks : asker.played 1 ≡ Some (runner 1 handed [] 2 (Asking (assign 6)))
  -- an Answer whose place is reached is the reply
  pub replied : (gets 0 1 (answers_at 2 0) asker).node.played 1 ≡ Some (runner 1 handed (answer.Done ∷ []) 2 Computing)
  -- another waits until it is reached
  pub waits : answer_held.node.held ≡ answers_at 3 0 ∷ []
  pub same : answer_held.node.played 1 ≡ Some (runner 1 handed [] 2 (Asking (assign 6)))
  pub then_replied : (takes_third 1 answer_held.node).node.played 1 ≡ Some (runner 1 handed (answer.Done ∷ []) 3 Computing)
  -- one of a call that isn't the next does nothing
  pub other : (gets 0 1 (answers_at 2 7) asker).node.played 1 ≡ Some (runner 1 handed [] 2 (Asking (assign 6)))
  -- at a tick the Ask goes out again, behind what the timer sends
  pub again : posts (ticks single_cell 1 asker) ≡ from_to 1 0 (packet.Status 0 2 2) ∷
      from_to 1 0 (packet.Ask 0 2 (message 1 0 (assign 6) refl)) ∷ []
