-- How `replay` ends: with which status and line, and when (docs/FORMATS.md, Statuses). Files are read first, those of the program in front of
-- the history, and the first that isn't read decides; then the program is judged, its texts, its linking, its typing and its limits; then the
-- history.
use Rattle.std.specs.Prelude.{◌≡◌, ◌⊎◌, ℕ, List, Option, codes}
use Rattle.orca_base.specs.declared.limits.TheConstants.{CODE_LENGTH, PARAMETERS}
use Rattle.orca_io.specs.Files.{File}
use Rattle.orca_io.specs.declared.shelf.ShelfFault.{ShelfFault}
use Rattle.link_rules.specs.Units.{Source}
use Rattle.accepted_law.specs.Limits.{IsWithinLimits}
use Rattle.orca_front.specs.declared.fault.FrontFault.{FrontFault}
use Rattle.orca_front.specs.Lines.{fault_line, limit_line}
use Rattle.orca_front.specs.Sources.{IsAccepted, IsFault}
use Rattle.program_limits.specs.Passed.{Passes}
use Rattle.program_limits.specs.declared.limits.PassedLimit.{PassedLimit}
use Rattle.program_limits.specs.declared.limits.PassedLimit.TheVariants as limit
use Rattle.meaning_rules.specs.Meanings.{computes_of, performs_of}
use Rattle.history_text.specs.declared.names.Names.{Names}
use Rattle.history_commands.specs.Replays.{IsToldOf, answer_line, answer_status}
use Rattle.history_commands.specs.declared.answer.Answer.{Answer}
use Rattle.program_names.specs.Naming.{AreNamesOf}
use Rattle.command_output.specs.declared.statuses.TheConstants.{LIMIT, NO_MEMORY}
use Rattle.command_output.specs.Printed.{Ends, EndsAs, Grew}
use Rattle.command_files.specs.declared.replay_fault.ReplayFault.{ReplayFault}
use Rattle.command_files.specs.Loaded.{front_status}
use Rattle.command_files.specs.Replays.{HasRead, IsReplayFault, replay_line, replay_status}
use Rattle.command_files.specs.Sources.{Word}

-- of a limit that a program passes
abbrev pub passed_line : PassedLimit → List ℕ
passed_line limit.Parameters = limit_line (codes "nesting") PARAMETERS
passed_line limit.CodeLength = limit_line (codes "code length") CODE_LENGTH

-- A file wasn't read. All were, and the texts of the program are none that is accepted; or they are one, and it passes a limit; or it keeps
-- within the limits, and this is what is said of the history's text by the source's meaning and names
pub data IsReplayEnding (told : Option (List File)) (stopped : ShelfFault → Word → Type 0) (history : Word) (files : List Word) : ℕ → List ℕ →
    Type 0 where
  unread : (fault : ReplayFault) → IsReplayFault told stopped history files fault →
      IsReplayEnding told stopped history files (replay_status fault) (replay_line fault)
  refused : (sources : List File) (text : List ℕ) (fault : FrontFault) → HasRead told history files sources text → IsFault sources fault →
      IsReplayEnding told stopped history files (front_status fault) (fault_line fault)
  limited : (sources : List File) (text : List ℕ) (units : List Source) (passed : PassedLimit) → HasRead told history files sources text →
      IsAccepted sources units → Passes units passed → IsReplayEnding told stopped history files LIMIT (passed_line passed)
  judged : (sources : List File) (text : List ℕ) (units : List Source) (names : Names) (answer : Answer) →
      HasRead told history files sources text → IsAccepted sources units → IsWithinLimits units → AreNamesOf units names →
      IsToldOf (performs_of units) (computes_of units) names text answer →
      IsReplayEnding told stopped history files (answer_status answer) (answer_line answer)

-- the answer of `replay`: an ending whose line was printed, or a front of the line where the write failed or memory lacked; or nothing at all,
-- for want of memory
abbrev pub IsReplayAnswer : Option (List File) → (ShelfFault → Word → Type 0) → Word → List Word → Option (List ℕ) → Option (List ℕ) → ℕ → Type 0
IsReplayAnswer told stopped history files old new status =
    ((wanted : ℕ) × (line : List ℕ) × IsReplayEnding told stopped history files wanted line × EndsAs wanted status ×
    Grew old new (Ends wanted status line))
    ⊎ ((status ≡ NO_MEMORY) × (new ≡ old))
