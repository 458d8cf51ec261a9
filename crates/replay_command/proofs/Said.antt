-- How `replay` ends, by what was printed.
use Rattle.std.proofs.Common.{◌≡◌, ℕ, List, Option, inl, inr, subst}
use Rattle.std.specs.Prelude.{Result, Ok, Err, IfOk, OnErr}
use Rattle.orca_io.specs.Files.{File}
use Rattle.orca_io.specs.declared.shelf.ShelfFault.{ShelfFault}
use Rattle.command_output.specs.declared.statuses.TheConstants.{NO_MEMORY}
use Rattle.command_output.specs.Printed.{Ends, EndsAs, Grew}
use Rattle.command_files.specs.Sources.{Word}
use Rattle.link_rules.specs.Units.{Source}
use Rattle.accepted_law.specs.Limits.{IsWithinLimits}
use Rattle.orca_front.specs.Sources.{IsAccepted}
use Rattle.meaning_rules.specs.Meanings.{computes_of, performs_of}
use Rattle.history_text.specs.declared.names.Names.{Names}
use Rattle.history_commands.specs.Replays.{IsSaid, answer_line, answer_status}
use Rattle.program_names.specs.Naming.{AreNamesOf}
use Rattle.command_files.specs.Replays.{HasRead}
use Rattle.replay_command.specs.Endings as because
use Rattle.replay_command.specs.Endings.{IsReplayAnswer, IsReplayEnding}

-- an ending's line was printed, or there was no memory for it
pub answer_of : {L E : Type 0} (bytes : L → List ℕ) (line : Result L E) (told : Option (List File)) (stopped : ShelfFault → Word → Type 0) (history : Word) (files : List Word) (old new : Option (List ℕ)) (wanted status : ℕ) (text : List ℕ) →
    IfOk line (λ l. bytes l ≡ text) → IfOk line (λ l. Grew old new (Ends wanted status (bytes l))) → OnErr line ((status ≡ NO_MEMORY) × (new ≡ old)) → EndsAs wanted status →
    IsReplayEnding told stopped history files wanted text → IsReplayAnswer told stopped history files old new status
answer_of bytes (Ok l) told stopped history files old new wanted status text is grew silent ends ending = inl (wanted, text, ending, ends, subst (λ (t : List ℕ). Grew old new (Ends wanted status t)) is grew)
answer_of bytes (Err e) told stopped history files old new wanted status text is grew silent ends ending = inr silent

-- what was said of the history is an ending of the command
pub judged_so : (told : Option (List File)) (stopped : ShelfFault → Word → Type 0) (history : Word) (files : List Word) (sources : List File) (text : List ℕ) (units : List Source) (names : Names) (old new : Option (List ℕ)) (status : ℕ) →
    HasRead told history files sources text → IsAccepted sources units → IsWithinLimits units → AreNamesOf units names → IsSaid (performs_of units) (computes_of units) names text old new status → IsReplayAnswer told stopped history files old new status
judged_so told stopped history files sources text units names old new status read accepted within are (inl said) =
    inl (answer_status said.0, answer_line said.0, because.judged sources text units names said.0 read accepted within are said.1, said.2, said.3)
judged_so told stopped history files sources text units names old new status read accepted within are (inr silent) = inr silent
