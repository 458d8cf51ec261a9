-- The run that words name: its program, as it was read, and its script (docs/FORMATS.md, The program).
use Rattle.std.specs.Prelude.{◌≡◌, ◌++◌, List, map, Option, Some}
use Rattle.command_line.specs.declared.request.RunOptions.{RunOptions}
use Rattle.net_rules.specs.declared.line.ScriptLine.{ScriptLine}
use Rattle.orca_io.specs.Files.{File}
use Rattle.orca_io.specs.Reading.{FileRead, ReadSince, had}
use Rattle.link_rules.specs.Units.{Source}
use Rattle.command_files.specs.Sources.{Word}
use Rattle.orca_answers.specs.Job.{deed_in, runs}
use Rattle.orca_answers.specs.Programs.{IsProgram}
use Rattle.orca_answers.specs.Scripts.{IsScriptOf, script_read}

-- The words ask for the run of the accepted program in files, whose units are these, by these options; and the script in the file that they
-- name, where they name one, has these lines. Of a shelf that told the reads `old` before and tells `new`, the texts of that program were
-- read, and behind them that of the script, and nothing else
pub record IsNamed (words : List Word) (told : Option (List File)) (old new : List FileRead) (units : List Source)
    (lines : List ScriptLine) : Type 0 where
  pub options : RunOptions
  pub script : Option Word
  pub files : List Word
  pub asked : deed_in words ≡ Some (runs options script files)
  pub program : IsProgram told files units
  pub script_has : IsScriptOf told script lines
  pub read : ReadSince old new (map had program.loaded.0 ++ script_read told script lines script_has)
