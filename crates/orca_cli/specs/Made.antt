-- The run for which words ask, by `run` or by `make`, and what is printed of it (docs/FORMATS.md, The program, The generated program).
use Rattle.std.specs.Prelude.{ℕ, List, length, Option}
use Rattle.command_line.specs.declared.request.RunOptions.{RunOptions}
use Rattle.net_rules.specs.declared.line.ScriptLine.{ScriptLine}
use Rattle.orca_io.specs.Files.{File}
use Rattle.orca_io.specs.Reading.{FileRead}
use Rattle.link_rules.specs.Units.{Source}
use Rattle.history_text.specs.declared.names.Names.{Names}
use Rattle.world_rules.specs.declared.standing.Standing.{Standing}
use Rattle.command_files.specs.Sources.{Word}
use Rattle.make_command.specs.Runs.{run_options}
use Rattle.make_command.specs.Summary.{made_line, summary_line}
use Rattle.orca_answers.specs.Made.{IsMade}
use Rattle.orca_answers.specs.Named.{IsNamed}
use Rattle.orca_cli.specs.declared.kept.Kept.{Kept}
use Rattle.orca_cli.specs.declared.printing.Printing.{Printing}
use Rattle.orca_cli.specs.declared.printing.Printing.TheVariants.{Output, Summary}
use Rattle.orca_cli.specs.Standings.{run_said}

-- what `make` prints, of a run that stands so, of whose members the longest log has so many entries: where it has finished the summary, and
-- else the line of its ending
abbrev pub made_said : ℕ → Standing → ℕ → Kept → List ℕ → List ℕ
made_said number standing entries k line =
    made_line standing (summary_line number (length k.processes.items) entries k.book.items) line

-- what is printed, by the options and the program's names, of how the run stands, how many entries the longest log has, what is kept, and
-- the line of its ending
abbrev pub said : Printing → RunOptions → Names → Standing → ℕ → Kept → List ℕ → List ℕ
said Output options names standing entries k line = run_said options names k line
said (Summary number) options names standing entries k line = made_said number standing entries k line

-- The words ask for the run of the program with these units, with the script of these lines, by these options, of which this is printed: by
-- `run` for that of the program in files, whose texts were read; by `make` for that of the program which is made of a number
pub data IsRunNamed (words : List Word) (told : Option (List File)) (old new : List FileRead) (units : List Source)
    (lines : List ScriptLine) : RunOptions → Printing → Type 0 where
  by_run : (named : IsNamed words told old new units lines) → IsRunNamed words told old new units lines named.options Output
  by_make : (made : IsMade words old new units lines) →
      IsRunNamed words told old new units lines (run_options made.options) (Summary made.number)
