-- The run for which `make` asks (docs/FORMATS.md, The generated program).
use Rattle.std.specs.Prelude.{◌≡◌, ℕ, List, [], ◌∷◌, Some}
use Rattle.command_line.specs.declared.request.MakeOptions.{MakeOptions}
use Rattle.net_rules.specs.declared.line.ScriptLine.{ScriptLine}
use Rattle.orca_io.specs.Reading.{FileRead}
use Rattle.link_rules.specs.Units.{Source}
use Rattle.accepted_law.specs.Limits.{IsWithinLimits}
use Rattle.orca_front.specs.Sources.{IsAccepted}
use Rattle.command_files.specs.Sources.{Word}
use Rattle.generated_program.specs.Program.{program_file}
use Rattle.make_command.specs.Losses.{losses}
use Rattle.orca_answers.specs.Job.{deed_in, makes}

-- The words ask for the run of the program that is made of this number, by these options. The text of that program, by itself, is these
-- units, which link, break no rule of typing and keep within the limits; and the script has the losses of the options, which are these
-- lines. Of a shelf that told the reads `old` before and tells `new`, nothing was read
pub record IsMade (words : List Word) (old new : List FileRead) (units : List Source) (lines : List ScriptLine) : Type 0 where
  pub options : MakeOptions
  pub number : ℕ
  pub asked : deed_in words ≡ Some (makes options number)
  pub accepted : IsAccepted (program_file number ∷ []) units
  pub within : IsWithinLimits units
  pub script : lines ≡ losses options.lose
  pub read : new ≡ old
