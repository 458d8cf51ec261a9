-- How the program ends where it runs nothing: with which status and line, what a policy was asked, and when (docs/FORMATS.md, Statuses).
use Rattle.std.specs.Prelude.{◌≡◌, ◌⊎◌, ℕ, List, Option, Some, None, map}
use Rattle.orca_io.specs.Files.{File}
use Rattle.orca_io.specs.declared.shelf.ShelfFault.{ShelfFault}
use Rattle.orca_io.specs.Reading.{FileRead, ReadSince, had}
use Rattle.link_rules.specs.Units.{Source}
use Rattle.replica_choice.specs.declared.policy.Asked.{Asked}
use Rattle.command_files.specs.declared.load_fault.LoadFault.{LoadFault}
use Rattle.command_output.specs.declared.statuses.TheConstants.{FINISHED, NO_MEMORY, USAGE}
use Rattle.orca_answers.specs.declared.listing.Listed.{Listed}
use Rattle.orca_answers.specs.declared.program.ProgramFault.{ProgramFault}
use Rattle.orca_answers.specs.declared.script.ScriptFault.{ScriptFault}
use Rattle.command_files.specs.Sources.{Word}
use Rattle.choice_command.specs.Lines.{choice_lines}
use Rattle.orca_answers.specs.Choosing.{Chooser, WasAskedSome, told_all}
use Rattle.orca_answers.specs.Job.{checks, chooses, deed_in, files_in, lists, replays, says, script_in}
use Rattle.orca_answers.specs.Lines.{usage_line, ok_line}
use Rattle.orca_answers.specs.Listings.{IsListed}
use Rattle.replay_command.specs.Endings.{IsReplayEnding}
use Rattle.command_files.specs.Loaded.{IsLoadFault, load_line, load_status}
use Rattle.command_output.specs.Printed.{Grew, Ends, EndsAs}
use Rattle.orca_answers.specs.Programs.{IsProgramFault, IsProgramSince, program_line, program_status}
use Rattle.orca_answers.specs.Scripts.{HasScriptSince, IsScriptFault, script_fault_line, script_status}
use Rattle.command_files.specs.Sources.{AreRead}

-- The words ask for help, for the version or for the text of the program that is made of a number; they are no command, or ask for what
-- isn't built. They ask for a check, a listing, the choices or a run of the program in files, and these weren't read; or they were, and the
-- script of the run wasn't, or is none; or that is one, and their texts are no accepted program. They ask for a check of one that is, or
-- that it is listed, or what this policy chooses for its sites. They ask whether a history is one of a program, and `replay` ends so. The
-- texts of a program that is judged, but by `replay`, and that of the script behind them, are those that a shelf's reads since gave, which
-- told `earlier` before and tell `later` now. Where choices are told, the policy was asked about each site of that program, and else about
-- nothing
pub data IsEnding (policy : Chooser) (words : List Word) (told : Option (List File)) (earlier later : List FileRead)
    (stopped : ShelfFault → Word → Type 0) : ℕ → List ℕ → List Asked → Type 0 where
  said : (text : List ℕ) → deed_in words ≡ Some (says text) → IsEnding policy words told earlier later stopped FINISHED text policy.told
  usage : deed_in words ≡ None → IsEnding policy words told earlier later stopped USAGE usage_line policy.told
  unread : (files : List Word) (fault : LoadFault) → files_in words ≡ Some files → IsLoadFault told stopped files fault →
      IsEnding policy words told earlier later stopped (load_status fault) (load_line fault) policy.told
  unscripted : (files : List Word) (sources : List File) (script : Word) (fault : ScriptFault) (between : List FileRead) →
      files_in words ≡ Some files → AreRead told files sources → ReadSince earlier between (map had sources) →
      script_in words ≡ Some script → IsScriptFault told between later stopped script fault →
      IsEnding policy words told earlier later stopped (script_status fault) (script_fault_line fault) policy.told
  refused : (files : List Word) (sources : List File) (fault : ProgramFault) → files_in words ≡ Some files → AreRead told files sources →
      HasScriptSince told words earlier later sources → IsProgramFault sources fault →
      IsEnding policy words told earlier later stopped (program_status fault) (program_line fault) policy.told
  accepted : (files : List Word) (units : List Source) → deed_in words ≡ Some (checks files) →
      IsProgramSince told earlier later files units → IsEnding policy words told earlier later stopped FINISHED ok_line policy.told
  listed : (what : Listed) (files : List Word) (units : List Source) (text : List ℕ) → deed_in words ≡ Some (lists what files) →
      IsProgramSince told earlier later files units → IsListed what units text →
      IsEnding policy words told earlier later stopped FINISHED text policy.told
  chosen : (nodes : ℕ) (files : List Word) (units : List Source) → deed_in words ≡ Some (chooses nodes files) →
      IsProgramSince told earlier later files units →
      IsEnding policy words told earlier later stopped FINISHED (choice_lines policy.rule nodes policy.told units) (told_all policy nodes units)
  replayed : (history : Word) (files : List Word) (wanted : ℕ) (line : List ℕ) → deed_in words ≡ Some (replays history files) →
      IsReplayEnding told stopped history files wanted line → IsEnding policy words told earlier later stopped wanted line policy.told

-- the answer where nothing was run: an ending whose line was printed, or a front of the line where the write failed or
-- memory lacked; or nothing at all, for want of memory. And the policy tells what it was asked
abbrev pub IsAnswer : Chooser → List Word → Option (List File) → List FileRead → List FileRead → (ShelfFault → Word → Type 0) →
    Option (List ℕ) → Option (List ℕ) → ℕ → List Asked → Type 0
IsAnswer policy words told earlier later stopped old new status asked =
    ((wanted : ℕ) × (line : List ℕ) × IsEnding policy words told earlier later stopped wanted line asked × EndsAs wanted status
    × Grew old new (Ends wanted status line))
    ⊎ ((status ≡ NO_MEMORY) × (new ≡ old) × WasAskedSome policy words told earlier later asked)
