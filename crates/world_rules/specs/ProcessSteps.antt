-- Single steps of processes: a read that is blocked, a fork, and how a run stands.
use Rattle.std.specs.Prelude.{◌≡◌, ◌==◌, ℕ, pos, negsuc, false, List, [], ◌∷◌, None, Some, refl}
use Rattle.orca_base.specs.declared.fault.FaultKind.TheVariants as fault
use Rattle.orca_base.specs.declared.what.What.TheVariants as what
use Rattle.value_core.specs.Datum as datum
use Rattle.value_core.specs.declared.action.Action.{Action}
use Rattle.value_core.specs.declared.action.Action.TheVariants as action
use Rattle.value_core.specs.declared.action.Reply.{Reply}
use Rattle.value_core.specs.declared.action.Reply.TheVariants as answer
use Rattle.world_rules.specs.declared.standing.Standing.TheVariants.{Limit, OutOfTurns, OutOfEvents, NoGroup, Faulted, Blocked, Finished, Going}
use Rattle.value_core.specs.declared.message.Message.{Message}
use Rattle.group_rules.specs.Sets.{with_at}
use Rattle.world_rules.specs.Frame.{Frame}
use Rattle.world_rules.specs.Nodes.{Node, idle, opening_node}
use Rattle.world_rules.specs.Parts.{catches_up}
use Rattle.world_rules.specs.LostEntry.{handed, lost_entry, lost_entry_end}
use Rattle.world_rules.specs.LostEntry as lost
use Rattle.world_rules.specs.OneCell.{one_cell, one_cell_end}
use Rattle.world_rules.specs.Played.{Played, Stage, at_action}
use Rattle.world_rules.specs.Played.Stage.{Computing, Acting, Submitted, Reading, Over}
use Rattle.world_rules.specs.Processes.{member_named}
use Rattle.world_rules.specs.Programs.{assign, await, fork_on, frame_of, line, make, runner, two_texts}
use Rattle.world_rules.specs.Scenes.{Scene, Unfolds, act, burst, deliver, one, world_after}
use Rattle.world_rules.specs.Standings.{standing}
use Rattle.world_rules.specs.Worlds.{World, opening_world, played_in}

-- ---- on one member process 0 makes the cell, forks process 1 and waits until the cell isn't 0, and process 1 assigns 6 or does nothing

abbrev pub waits_for_six : List Action → Frame
waits_for_six second = frame_of 1 0 [] (two_texts (make ∷ fork_on 0 ∷ await ∷ []) second)

abbrev pub first_at : List Reply → ℕ → Action → Played
first_at replies place act = runner 0 datum.none replies place (at_action act)

abbrev pub second_at : List Reply → ℕ → Action → Played
second_at replies place act = runner 1 handed replies place (at_action act)

abbrev pub waiting_scenes : List Scene
waiting_scenes =
    burst 0 0 [] (first_at [] 0 make) ∷ act 0 []
    ∷ burst 0 1 [] (first_at (answer.Done ∷ []) 1 (fork_on 0)) ∷ act 0 []
    ∷ burst 0 2 [] (first_at (answer.Done ∷ answer.Done ∷ []) 2 await) ∷ act 0 [] ∷ []

abbrev pub answered_scenes : List Scene
answered_scenes = burst 1 2 [] (second_at [] 2 (assign 6)) ∷ act 1 [] ∷ []

abbrev pub both_end : List Scene
both_end =
    burst 0 3 [] (first_at (answer.Done ∷ answer.Done ∷ answer.Done ∷ []) 3 action.Ended)
    ∷ burst 1 3 [] (second_at (answer.Done ∷ []) 3 action.Ended) ∷ []

abbrev pub six : Frame
six = waits_for_six (assign 6 ∷ [])

abbrev pub waiting : World
waiting = world_after six (opening_world six) waiting_scenes

abbrev pub answered : World
answered = world_after six waiting answered_scenes

abbrev pub nobody_assigns : Frame
nobody_assigns = waits_for_six []

abbrev pub waits_for_ever : World
waits_for_ever = world_after nobody_assigns
    (world_after nobody_assigns (opening_world nobody_assigns) waiting_scenes)
    (burst 1 2 [] (second_at [] 2 action.Ended) ∷ [])

pub record BlockedRead : Type 0 where
  pub goes : Unfolds six (opening_world six) waiting_scenes
  -- the read is no message, and waits
  pub waits : played_in six waiting 0 ≡ Some (runner 0 datum.none (answer.Done ∷ answer.Done ∷ []) 2 (Reading await))
  pub none : waiting.aside ≡ []
  pub going : standing six waiting ≡ Going
  -- after the assignment, which is entry 3, it is performed at that place
  pub goes_on : Unfolds six waiting answered_scenes
  pub replied : played_in six answered 0 ≡ Some (runner 0 datum.none (answer.Done ∷ answer.Done ∷ answer.Done ∷ []) 3 Computing)
  pub aside : answered.aside ≡ record { place = 3; line = line 0 2 await 1 answer.Done } ∷ []
  pub ends : Unfolds six answered both_end
  pub finished : standing six (world_after six answered both_end) ≡ Finished
  -- where nobody assigns, the run is blocked
  pub blocked : standing nobody_assigns waits_for_ever ≡ Blocked

-- ---- a fork: the process exists once a member applied it, and begins once its own member did, at that place

-- the run with a lost entry, after so many steps
abbrev pub forked : World
forked = world_after lost_entry (opening_world lost_entry)
    (burst 0 0 [] (lost.first_at [] 0 make) ∷ act 0 one ∷ burst 0 1 [] (lost.first_at (answer.Done ∷ []) 1 (fork_on 1)) ∷ act 0 one ∷ [])

pub record Fork : Type 0 where
  pub not_begun : played_in lost_entry forked 1 ≡ None
  pub begun : played_in lost_entry (world_after lost_entry forked (deliver 1 [] ∷ deliver 2 [] ∷ [])) 1 ≡
      Some (runner 1 handed [] 2 Computing)
  -- members are named modulo N, from 0 to N - 1
  pub named : member_named 3 0 (Some (pos 7)) ≡ 1
  pub below_zero : member_named 3 0 (Some (negsuc 0)) ≡ 2
  pub parents : member_named 3 1 None ≡ 1

-- ---- how a run stands

-- the run of one cell at its end, had it so many turns and events, and stood its process so, after so many turns
abbrev pub with_numbers : ℕ → ℕ → Frame
with_numbers turns events = record one_cell { settings = record one_cell.settings { turns = turns; events = events } }

abbrev pub staged : ℕ → Stage → Node → Node
staged turns stage node = record node {
  played = with_at node.played 0 (Some (record (runner 0 datum.none [] 3 stage) { turns = turns }));
}

abbrev pub with_stage : ℕ → Stage → World
with_stage turns stage = record one_cell_end { nodes = with_at one_cell_end.nodes 0 (staged turns stage (one_cell_end.nodes 0)) }

-- member 0 alone lives, and its process waits for its message, after so many idle ticks
abbrev pub alone : ℕ → World
alone ticks = record (with_stage 0 (Submitted (assign 6))) { lives = λ m. m == 0; idle = ticks }

abbrev pub nobody : World
nobody = record one_cell_end { lives = λ m. false }

-- member 0 has 256 processes, and the next accepted entry forks one more
abbrev pub fork_message : Message
fork_message = record { process = record { 0 = 0 }; call = record { 0 = 0 }; action = fork_on 1; performable = refl }

abbrev pub full_of_processes : Node
full_of_processes = record (opening_node one_cell 0) {
  member = record (opening_node one_cell 0).member { log = fork_message ∷ []; accepted = 1 };
  copies = record (opening_node one_cell 0).copies { processes = 256 };
}

abbrev pub full : World
full = record (opening_world one_cell) { nodes = with_at (opening_world one_cell).nodes 0 full_of_processes }

pub record Stands : Type 0 where
  pub finished : standing one_cell one_cell_end ≡ Finished
  pub out_of_events : standing (with_numbers 1000 22) one_cell_end ≡ OutOfEvents
  pub one_more_event : standing (with_numbers 1000 23) one_cell_end ≡ Finished
  pub out_of_turns : standing one_cell (with_stage 1000 Computing) ≡ OutOfTurns
  pub one_more_turn : standing one_cell (with_stage 999 Computing) ≡ Going
  -- with its last turn begun a process may still have come to an action
  pub at_action : standing one_cell (with_stage 1000 (Acting (assign 6))) ≡ Going
  -- the first row that holds
  pub turns_first : standing (with_numbers 1000 22) (with_stage 1000 Computing) ≡ OutOfTurns
  pub no_group : standing one_cell (alone 200) ≡ NoGroup
  pub one_more_tick : standing one_cell (alone 199) ≡ Going
  pub nobody_lives : standing one_cell nobody ≡ NoGroup
  pub faulted : standing one_cell (with_stage 0 (Over (action.Faulted fault.Overflow))) ≡ Faulted
  -- its member stops before the entry
  pub limit : standing one_cell full ≡ Limit what.Processes 256
  pub stops : (catches_up one_cell 0 (idle full_of_processes)).deeds ≡ []
