-- Accepted programs: which texts are one, and why others aren't (docs/FORMATS.md, Statuses).
use Rattle.std.specs.Prelude.{ℕ, List, Option, map}
use Rattle.orca_io.specs.Files.{File}
use Rattle.orca_io.specs.Reading.{FileRead, ReadSince, had}
use Rattle.link_rules.specs.Units.{Source}
use Rattle.accepted_law.specs.Limits.{IsWithinLimits}
use Rattle.program_limits.specs.Passed.{Passes}
use Rattle.orca_front.specs.Lines.{fault_line}
use Rattle.orca_front.specs.Sources.{IsAccepted, IsFault}
use Rattle.command_files.specs.Loaded.{IsLoaded, front_status}
use Rattle.command_files.specs.Sources.{Word}
use Rattle.command_output.specs.declared.statuses.TheConstants.{LIMIT}
use Rattle.program_bodies.specs.Codes.{sources}
use Rattle.code_machine.specs.declared.machine.CodeMachine.{CodeMachine}
use Rattle.replay_command.specs.Endings.{passed_line}
use Rattle.orca_answers.specs.declared.program.ProgramFault.{ProgramFault}
use Rattle.orca_answers.specs.declared.program.ProgramFault.TheVariants.{Limited, Refused}

-- all files were read; their texts are these units, which link and break no rule of typing; and these keep within the limits on parameters, and on
-- tokens and declared names together
pub record IsProgram (told : Option (List File)) (files : List Word) (units : List Source) : Type 0 where
  pub loaded : IsLoaded told files units
  pub within : IsWithinLimits units

-- it is that of the texts which were read since, and nothing else was read
abbrev pub IsProgramSince : Option (List File) → List FileRead → List FileRead → List Word → List Source → Type 0
IsProgramSince told earlier later files units = (program : IsProgram told files units) × ReadSince earlier later (map had program.loaded.0)

-- Why sources are no accepted program: some text is no unit, or they don't link, or break a rule of typing. Or they are units that pass this limit,
-- and would be one else
abbrev pub IsProgramFault : List File → ProgramFault → Type 0
IsProgramFault sources (Refused fault) = IsFault sources fault
IsProgramFault sources (Limited passed) = (units : List Source) × IsAccepted sources units × Passes units passed

abbrev pub program_status : ProgramFault → ℕ
program_status (Refused fault) = front_status fault
program_status (Limited passed) = LIMIT

abbrev pub program_line : ProgramFault → List ℕ
program_line (Refused fault) = fault_line fault
program_line (Limited passed) = passed_line passed

-- the units of the program that a machine runs
abbrev pub units_of : CodeMachine → List Source
units_of m = sources m.tables.checked
