-- What an instruction does inside of its body, in the definitions' words.
use Rattle.std.specs.Prelude.{◌≡◌, ◌+◌, ◌<◌, ◌^◌, Bool, true, false, List, Option, Some, None, slice_get, if◌then◌else◌}
use Rattle.value_core.specs.Datum.{Datum}
use Rattle.code_rules.specs.Instructions as rules
use Rattle.code_rules.specs.Instructions.{Instr, Make, Call, Return, End}
use Rattle.code_rules.specs.Machine as machine
use Rattle.code_rules.specs.Machine.{Code, Config, Effect, act}
use Rattle.frame_variables.specs.declared.stop.Stop.{Stop}
use Rattle.frame_variables.specs.declared.stop.Stop.TheVariants as stop
use Rattle.code_steps.specs.declared.advance.Advance.{Advance}
use Rattle.code_steps.specs.declared.advance.Advance.TheVariants as advance

-- a configuration with other operands and variables
abbrev pub holding : Config → List Datum → List Datum → Config
holding home stack locals = record home { stack = stack; locals = locals }

-- what was done, where the operands and variables then are these
abbrev pub effect_of : Config → Advance → List Datum → List Datum → Effect
effect_of home advance.Next stack locals = machine.Steps (record home { pc = home.pc + 1; stack = stack; locals = locals })
effect_of home (advance.To address) stack locals = machine.Steps (record home { pc = address; stack = stack; locals = locals })
effect_of home advance.Turned stack locals = machine.Turns (record home { pc = home.pc + 1; stack = stack; locals = locals })
effect_of home (advance.Asks action) stack locals = machine.Asks action (record home { pc = home.pc + 1; stack = stack; locals = locals })
effect_of home (advance.Fails fault) stack locals = machine.Fails fault
effect_of home (advance.Tests truth otherwise) stack locals = machine.Tests truth (if truth then home.pc + 1 else otherwise)
effect_of home advance.Blocks stack locals = machine.Blocks
effect_of home advance.Stuck stack locals = machine.Stuck

-- an instruction does this with these operands and variables, and leaves those, wherever it stands and whatever the rest of the code is
abbrev pub Moves : Instr → List Datum → List Datum → Advance → List Datum → List Datum → Type 0
Moves i stack locals a stack' locals' =
    (code : Code) (home : Config) → act code (Some i) (holding home stack locals) ≡ effect_of home a stack' locals'

-- what a stop is; of want of memory nothing is said
abbrev pub told : Stop → Option Advance
told (stop.Faults fault) = Some (advance.Fails fault)
told (stop.Needs action) = Some advance.Stuck
told stop.Busy = Some advance.Stuck
told stop.NoMemory = None

-- an instruction that calls a body, or leaves one
abbrev pub leaves_body : Instr → Bool
leaves_body (Call function shapes) = true
leaves_body Return = true
leaves_body rules.Result = true
leaves_body End = true
leaves_body _ = false

-- an object's number has 32 bits
abbrev pub HasRoom : Instr → Type 0
HasRoom (Make kind count slot) = count < 2 ^ 32
HasRoom _ = Unit {0}

-- so it has in the instruction at which a run stands, where there is one
abbrev pub HasRoomAt : Code → Config → Type 0
HasRoomAt code c = (i : Instr) → slice_get (machine.body_at code c.body) c.pc ≡ Some i → HasRoom i
