-- A whole run: one cell on three members, of which one acknowledges. The process makes the cell, assigns 6, reads it in a burst, and writes
-- it: 22 steps, 15 packets, a book of four lines.
use Rattle.std.specs.Prelude.{◌≡◌, ℕ, List, [], ◌∷◌, length}
use Rattle.group_packets.specs.declared.packet.PacketKind.{PacketKind}
use Rattle.group_packets.specs.declared.packet.PacketKind.TheVariants as kind
use Rattle.value_core.specs.Datum as datum
use Rattle.value_core.specs.declared.action.Action.{Action}
use Rattle.value_core.specs.declared.action.Action.TheVariants as action
use Rattle.value_core.specs.declared.action.Line.{Line}
use Rattle.value_core.specs.declared.action.Reply.{Reply}
use Rattle.value_core.specs.declared.action.Reply.TheVariants as answer
use Rattle.value_core.specs.History.{Legal, Objects, objects_of}
use Rattle.net_rules.specs.declared.asked.Asked.{Asked}
use Rattle.net_rules.specs.declared.asked.Asked.TheVariants as asked
use Rattle.net_rules.specs.declared.fate.Fate.TheVariants as fate
use Rattle.world_rules.specs.declared.event.Step.{Step}
use Rattle.world_rules.specs.declared.standing.PlaceNote.TheVariants as note
use Rattle.world_rules.specs.declared.standing.PlaceNote.{PlaceNote}
use Rattle.world_rules.specs.declared.standing.Standing.TheVariants.{Finished}
use Rattle.world_rules.specs.Frame.{Frame}
use Rattle.world_rules.specs.Played.{Played, at_action}
use Rattle.world_rules.specs.Played.Stage.{Computing}
use Rattle.world_rules.specs.Programs.{assign, frame_of, gives, line, make, performs, runner, two_texts, value, write}
use Rattle.world_rules.specs.Scenes.{Scene, act, both, burst, deliver, one, steps_of, world_after}
use Rattle.world_rules.specs.Standings.{standing}
use Rattle.world_rules.specs.Steps.{Replays, asked_of}
use Rattle.world_rules.specs.Worlds.{Book, World, opening_world, places}

-- the string "6" has the one character 54
abbrev pub actions : List Action
actions = make ∷ assign 6 ∷ value ∷ write 54 ∷ []

abbrev pub one_cell : Frame
one_cell = frame_of 3 1 [] (two_texts actions [])

-- the process after these replies, at this place, and at this action
abbrev pub at_place : List Reply → ℕ → Action → Played
at_place replies place act = runner 0 datum.none replies place (at_action act)

-- and as it computes
abbrev pub computing : List Reply → ℕ → Played
computing replies place = runner 0 datum.none replies place Computing

abbrev pub read_six : Line
read_six = line 0 2 value 0 (gives 6)

-- a burst up to an action, the action, and its entry at all three members
abbrev pub scenes : List Scene
scenes =
    burst 0 0 [] (at_place [] 0 make)
    ∷ act 0 both ∷ deliver 1 one ∷ deliver 2 [] ∷ deliver 3 both ∷ deliver 4 [] ∷ deliver 5 []
    ∷ burst 0 1 [] (at_place (answer.Done ∷ []) 1 (assign 6))
    ∷ act 0 both ∷ deliver 6 one ∷ deliver 7 [] ∷ deliver 8 both ∷ deliver 9 [] ∷ deliver 10 []
    ∷ burst 0 2 (read_six ∷ []) (at_place (answer.Done ∷ answer.Done ∷ gives 6 ∷ []) 2 (write 54))
    ∷ act 0 both ∷ deliver 11 one ∷ deliver 12 [] ∷ deliver 13 both ∷ deliver 14 [] ∷ deliver 15 []
    ∷ burst 0 3 [] (at_place (answer.Done ∷ answer.Done ∷ gives 6 ∷ answer.Done ∷ []) 3 action.Ended) ∷ []

abbrev pub one_cell_steps : List Step
one_cell_steps = steps_of scenes

abbrev pub one_cell_end : World
one_cell_end = world_after one_cell (opening_world one_cell) scenes

-- what the first wire was asked: 6 Entry, 3 Ack, 6 Accept
abbrev pub passes : ℕ → PacketKind → ℕ → ℕ → ℕ → Asked
passes packet kind from to length =
    asked.Packet (record { packet = packet; kind = kind; from = from; to = to; length = length }) fate.Pass

abbrev pub one_cell_asked : List Asked
one_cell_asked =
    passes 1 kind.Entry 0 1 52 ∷ passes 2 kind.Entry 0 2 52 ∷ passes 3 kind.Ack 1 0 25
    ∷ passes 4 kind.Accept 0 1 25 ∷ passes 5 kind.Accept 0 2 25
    ∷ passes 6 kind.Entry 0 1 64 ∷ passes 7 kind.Entry 0 2 64 ∷ passes 8 kind.Ack 1 0 25
    ∷ passes 9 kind.Accept 0 1 25 ∷ passes 10 kind.Accept 0 2 25
    ∷ passes 11 kind.Entry 0 1 61 ∷ passes 12 kind.Entry 0 2 61 ∷ passes 13 kind.Ack 1 0 25
    ∷ passes 14 kind.Accept 0 1 25 ∷ passes 15 kind.Accept 0 2 25 ∷ []

abbrev pub one_cell_book : List Line
one_cell_book =
    line 0 0 make 0 answer.Done ∷ line 0 1 (assign 6) 0 answer.Done ∷ read_six ∷ line 0 3 (write 54) 0 answer.Done ∷ []

abbrev pub one_cell_places : List PlaceNote
one_cell_places = note.Entry 1 ∷ note.Entry 2 ∷ note.Read 2 ∷ note.Entry 3 ∷ []

-- a member's objects at the end
abbrev pub objects_at : ℕ → Objects
objects_at m = (one_cell_end.nodes m).copies.objects

-- the steps lead to this world, whose run has finished: what the wires were asked, the book with its places, and that each member's copies
-- are its objects after all of it
pub record OneCell : Type 0 where
  pub replays : Replays one_cell one_cell_steps one_cell_end
  pub stands : standing one_cell one_cell_end ≡ Finished
  pub first_wire : asked_of 0 one_cell_end.told ≡ one_cell_asked
  pub second_wire : asked_of 1 one_cell_end.told ≡ []
  pub book : Book one_cell one_cell_end ≡ one_cell_book
  pub places : places one_cell one_cell_end ≡ one_cell_places
  pub legal : Legal performs (two_texts actions []) (Book one_cell one_cell_end)
  pub sequencer : objects_at 0 ≡ objects_of performs (two_texts actions []) one_cell_book
  pub acknowledger : objects_at 1 ≡ objects_of performs (two_texts actions []) one_cell_book
  pub other : objects_at 2 ≡ objects_of performs (two_texts actions []) one_cell_book
  pub none : one_cell_end.flights ≡ []
