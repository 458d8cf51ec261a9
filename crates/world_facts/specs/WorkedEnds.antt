-- The ends of worked worlds, which the check computes; and that the premises of the law of runs can be met together.
use Rattle.std.specs.Prelude.{◌≡◌, ◌==◌, ℕ, true, false, [], ◌∷◌}
use Rattle.orca_base.specs.declared.fault.FaultKind.TheVariants as fault
use Rattle.value_core.specs.History.{objects_of}
use Rattle.value_core.specs.declared.action.Action.TheVariants as action
use Rattle.value_core.specs.declared.action.Reply.TheVariants as answer
use Rattle.world_rules.specs.Frame.{AreSettings}
use Rattle.world_rules.specs.LostEntry.{lost_entry}
use Rattle.world_rules.specs.OneCell.{actions, one_cell, one_cell_book, one_cell_end, one_cell_steps}
use Rattle.world_rules.specs.Played.{Stage}
use Rattle.world_rules.specs.Played.Stage.{Computing, Acting, Submitted, Reading, Asking, Over}
use Rattle.world_rules.specs.ProcessSteps.{forked, with_stage}
use Rattle.world_rules.specs.Programs.{assign, gives, performs, two_texts}
use Rattle.world_rules.specs.Steps.{Replays}
use Rattle.world_rules.specs.Worlds.{World}
use Rattle.world_facts.specs.Replicated.{AllReplicated}
use Rattle.world_facts.specs.Ends.{NodeEnd, ProcessEnd, Stand, node_end, node_ends, process_end, process_ends}

-- the run of one cell at its end: three members, each with three entries, and one process
abbrev pub ended_member : NodeEnd
ended_member = record {
  applied = 3;
  incarnation = 0;
  crashed = false;
  outside = false;
  copies = objects_of performs (two_texts actions []) one_cell_book;
  own = [];
}

abbrev pub ended_process : ProcessEnd
ended_process =
    record { node = 0; replies = answer.Done ∷ answer.Done ∷ gives 6 ∷ answer.Done ∷ []; turns = 0; stand = Stand.Ended }

-- had member 0 crashed, or not, where its process stood so
abbrev pub crashed_at : Stage → World
crashed_at stage = record (with_stage 7 stage) { lives = λ m. m == 1 }

pub record WorkedEnds : Type 0 where
  pub members : node_ends one_cell one_cell_end ≡ ended_member ∷ ended_member ∷ ended_member ∷ []
  pub processes : process_ends one_cell one_cell_end ≡ ended_process ∷ []
  -- one whose member hasn't applied its fork
  pub forked : process_end lost_entry forked 1 ≡ record { node = 1; replies = []; turns = 0; stand = Stand.Busy }
  pub computing : process_end one_cell (with_stage 7 Computing) 0 ≡ record { node = 0; replies = []; turns = 7; stand = Stand.Busy }
  pub acting : (process_end one_cell (with_stage 7 (Acting (assign 6))) 0).stand ≡ Stand.Waits (assign 6)
  pub submitted : (process_end one_cell (with_stage 7 (Submitted (assign 6))) 0).stand ≡ Stand.Waits (assign 6)
  pub reading : (process_end one_cell (with_stage 7 (Reading (assign 6))) 0).stand ≡ Stand.Waits (assign 6)
  pub asking : (process_end one_cell (with_stage 7 (Asking (assign 6))) 0).stand ≡ Stand.Waits (assign 6)
  -- a member that crashed, and its process: what had ended or faulted before stays so
  pub crashed_member : (node_end (crashed_at Computing) 0).crashed ≡ true
  pub crashed : (process_end one_cell (crashed_at (Submitted (assign 6))) 0).stand ≡ Stand.Crashed
  pub ended_first : (process_end one_cell (crashed_at (Over action.Ended)) 0).stand ≡ Stand.Ended
  pub faulted_first :
      (process_end one_cell (crashed_at (Over (action.Faulted fault.Overflow))) 0).stand ≡ Stand.Faulted fault.Overflow

-- what the law of runs asks of a run is so of the run of one cell
pub record PremisesMet : Type 0 where
  pub settings : AreSettings one_cell.settings
  pub replicated : AllReplicated one_cell
  pub replays : Replays one_cell one_cell_steps one_cell_end
