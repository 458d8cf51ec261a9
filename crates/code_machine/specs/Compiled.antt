-- The code that a machine keeps.
use Rattle.std.specs.Prelude.{◌≡◌, List}
use Rattle.link_rules.specs.Units.{Source}
use Rattle.code_rules.specs.Program.{program_code}
use Rattle.emitted_code.specs.Views.{program_seen}
use Rattle.emitted_code.specs.declared.bodies.Emitted.{Emitted}
use Rattle.code_machine.specs.Once.{code_once}

-- it is that which the definitions have of the program, instruction for instruction
abbrev pub IsCompiled : List Source → Emitted → Type 0
IsCompiled us code = program_seen code ≡ program_code us

pub compiled_once : (us : List Source) (code : Emitted) → IsProp (IsCompiled us code)
compiled_once us code = code_once (program_seen code) (program_code us)
