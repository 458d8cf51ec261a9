-- A whole run: an entry that is lost, and a read at an earlier view. Process 0 makes the cell, forks process 1 on member 1, and assigns
-- 6. The first entry doesn't reach member 1, which asks for it. Process 1 reads on a view of two entries, though its member has applied
-- three by then: its read stands before the assignment. It writes what it read, and reads again.
use Rattle.std.specs.Prelude.{◌≡◌, ℕ, List, [], ◌∷◌}
use Rattle.group_packets.specs.declared.packet.PacketKind.TheVariants as kind
use Rattle.value_core.specs.Datum.{Data}
use Rattle.value_core.specs.Datum as datum
use Rattle.value_core.specs.declared.action.Action.{Action}
use Rattle.value_core.specs.declared.action.Action.TheVariants as action
use Rattle.value_core.specs.declared.action.Line.{Line}
use Rattle.value_core.specs.declared.action.Reply.{Reply}
use Rattle.value_core.specs.declared.action.Reply.TheVariants as answer
use Rattle.value_core.specs.History.{Legal, Objects, objects_of}
use Rattle.net_rules.specs.declared.asked.Asked.{Asked}
use Rattle.net_rules.specs.declared.asked.Asked.TheVariants as asked
use Rattle.net_rules.specs.declared.fate.Fate.TheVariants as fate
use Rattle.world_rules.specs.declared.event.Step.{Step}
use Rattle.world_rules.specs.declared.standing.PlaceNote.TheVariants as note
use Rattle.world_rules.specs.declared.standing.PlaceNote.{PlaceNote}
use Rattle.world_rules.specs.declared.standing.Standing.TheVariants.{Finished}
use Rattle.world_rules.specs.Frame.{Frame}
use Rattle.world_rules.specs.OneCell.{passes}
use Rattle.world_rules.specs.Played.{Played, at_action}
use Rattle.world_rules.specs.Programs.{assign, fork_on, frame_of, gives, line, make, performs, runner, two_texts, value, write}
use Rattle.world_rules.specs.Scenes.{Scene, act, both, burst, deliver, one, steps_of, world_after}
use Rattle.world_rules.specs.Standings.{standing}
use Rattle.world_rules.specs.Steps.{Replays, asked_of}
use Rattle.world_rules.specs.Worlds.{Book, World, opening_world, places}

-- the string "0" has the one character 48
abbrev pub first_text : List Action
first_text = make ∷ fork_on 1 ∷ assign 6 ∷ []

abbrev pub second_text : List Action
second_text = value ∷ write 48 ∷ value ∷ []

abbrev pub lost_entry : Frame
lost_entry = frame_of 2 0 [] (two_texts first_text second_text)

-- process 0, and process 1, which was handed the cell, after these replies, at this place, and at this action
abbrev pub first_at : List Reply → ℕ → Action → Played
first_at replies place act = runner 0 datum.none replies place (at_action act)

abbrev pub handed : Data
handed = datum.more (datum.object 0 1) datum.none

abbrev pub second_at : List Reply → ℕ → Action → Played
second_at replies place act = runner 1 handed replies place (at_action act)

abbrev pub early_read : Line
early_read = line 1 0 value 0 (gives 0)

abbrev pub late_read : Line
late_read = line 1 2 value 0 (gives 6)

abbrev pub scenes : List Scene
scenes =
    burst 0 0 [] (first_at [] 0 make) ∷ act 0 (fate.Drop ∷ [])
    ∷ burst 0 1 [] (first_at (answer.Done ∷ []) 1 (fork_on 1)) ∷ act 0 one
    ∷ deliver 2 one ∷ deliver 3 both ∷ deliver 4 [] ∷ deliver 5 []
    ∷ burst 0 2 [] (first_at (answer.Done ∷ answer.Done ∷ []) 2 (assign 6)) ∷ act 0 one ∷ deliver 6 []
    ∷ burst 1 2 (early_read ∷ []) (second_at (gives 0 ∷ []) 2 (write 48)) ∷ act 1 one ∷ deliver 7 one ∷ deliver 8 []
    ∷ burst 1 4 (late_read ∷ []) (second_at (gives 0 ∷ answer.Done ∷ gives 6 ∷ []) 4 action.Ended)
    ∷ burst 0 3 [] (first_at (answer.Done ∷ answer.Done ∷ answer.Done ∷ []) 3 action.Ended) ∷ []

abbrev pub lost_entry_steps : List Step
lost_entry_steps = steps_of scenes

abbrev pub lost_entry_end : World
lost_entry_end = world_after lost_entry (opening_world lost_entry) scenes

-- what the wire was asked: 6 Entry, of which the first is lost, a Nack and a Request
abbrev pub lost_entry_asked : List Asked
lost_entry_asked =
    asked.Packet (record { packet = 1; kind = kind.Entry; from = 0; to = 1; length = 52 }) fate.Drop
    ∷ passes 2 kind.Entry 0 1 63 ∷ passes 3 kind.Nack 1 0 26 ∷ passes 4 kind.Entry 0 1 52 ∷ passes 5 kind.Entry 0 1 63
    ∷ passes 6 kind.Entry 0 1 64 ∷ passes 7 kind.Request 1 0 45 ∷ passes 8 kind.Entry 0 1 61 ∷ []

abbrev pub lost_entry_book : List Line
lost_entry_book =
    line 0 0 make 0 answer.Done ∷ line 0 1 (fork_on 1) 0 answer.Done ∷ early_read ∷ line 0 2 (assign 6) 0 answer.Done
    ∷ line 1 1 (write 48) 0 answer.Done ∷ late_read ∷ []

abbrev pub lost_entry_places : List PlaceNote
lost_entry_places = note.Entry 1 ∷ note.Entry 2 ∷ note.Read 2 ∷ note.Entry 3 ∷ note.Entry 4 ∷ note.Read 4 ∷ []

abbrev pub objects_at : ℕ → Objects
objects_at m = (lost_entry_end.nodes m).copies.objects

pub record LostEntry : Type 0 where
  pub replays : Replays lost_entry lost_entry_steps lost_entry_end
  pub stands : standing lost_entry lost_entry_end ≡ Finished
  pub asked : asked_of 0 lost_entry_end.told ≡ lost_entry_asked
  pub book : Book lost_entry lost_entry_end ≡ lost_entry_book
  pub places : places lost_entry lost_entry_end ≡ lost_entry_places
  pub legal : Legal performs (two_texts first_text second_text) (Book lost_entry lost_entry_end)
  pub sequencer : objects_at 0 ≡ objects_of performs (two_texts first_text second_text) lost_entry_book
  pub other : objects_at 1 ≡ objects_of performs (two_texts first_text second_text) lost_entry_book
