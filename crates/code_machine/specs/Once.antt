-- Of an equation of code there is one proof, so that a machine may keep it; and states of processes have codes, which tell them apart.
use Rattle.std.specs.Prelude.{◌≡◌, refl, false}
use Rattle.std.proofs.Props.{props}
use Rattle.std.specs.Coded.{Coded, codes, code_by}
use Rattle.orca_tree.specs.declared.tree.Operator.{Operator}
use Rattle.value_core.specs.Code.{data_code}
use Rattle.value_core.specs.Datum.{Datum, Data}
use Rattle.value_core.specs.Datum as datum
use Rattle.value_core.specs.declared.action.Action.{Action}
use Rattle.value_paths.specs.declared.step.Step.{Step}
use Rattle.meaning_rules.specs.Variables.{Target}
use Rattle.code_rules.specs.Instructions.{Instr, Mark, Prefix, Shape}
use Rattle.code_rules.specs.Machine.{Body, BodyNo, Caller, Code, Config, OperationCode, Phase, ProcessState, TypeCode}

-- ---- values

abbrev first_in : Data → Datum
first_in datum.none = datum.truth false
first_in (datum.more v w) = v

datum_code : Coded Datum
datum_code = code_by Data data_code (λ v. datum.more v datum.none) first_in (λ v. refl)

step_code : Coded Step
step_code = hlevel codes

-- ---- code

mark_code : Coded Mark
mark_code = hlevel (codes, step_code)

prefix_code : Coded Prefix
prefix_code = hlevel codes

operator_code : Coded Operator
operator_code = hlevel codes

shape_code : Coded Shape
shape_code = hlevel (codes, mark_code)

instr_code : Coded Instr
instr_code = hlevel (codes, datum_code, mark_code, prefix_code, operator_code, shape_code)

body_code : Coded Body
body_code = hlevel (codes, datum_code, instr_code)

operation_code : Coded OperationCode
operation_code = hlevel (codes, body_code)

type_code : Coded TypeCode
type_code = hlevel (codes, body_code, operation_code)

program_code : Coded Code
program_code = hlevel (codes, body_code, type_code)

pub code_once : (c d : Code) → IsProp (c ≡ d)
code_once c d = hlevel (props, program_code)

-- ---- states of processes

action_code : Coded Action
action_code = hlevel (codes, data_code)

number_code : Coded BodyNo
number_code = hlevel codes

target_code : Coded Target
target_code = hlevel (codes, step_code)

caller_code : Coded Caller
caller_code = hlevel (codes, datum_code, number_code, target_code)

config_code : Coded Config
config_code = hlevel (codes, datum_code, number_code, caller_code)

phase_code : Coded Phase
phase_code = hlevel (codes, action_code, config_code)

pub state_code : Coded ProcessState
state_code = hlevel (codes, phase_code)
