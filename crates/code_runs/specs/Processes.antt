-- What is kept of a process, in the definitions' words.
use Rattle.std.specs.Prelude.{Option, Some, None}
use Rattle.value_core.specs.View.{datum_of}
use Rattle.value_core.specs.declared.value.Value.{Value}
use Rattle.code_rules.specs.Machine as machine
use Rattle.code_rules.specs.Machine.{ProcessState, in_phase, push_on}
use Rattle.code_steps.specs.Bodies.{config_of}
use Rattle.code_runs.specs.declared.process.CodeProcess.{CodeProcess}
use Rattle.code_runs.specs.declared.process.Phase.{Phase}
use Rattle.code_runs.specs.declared.process.Phase.TheVariants as phase

-- a reply that isn't pushed yet stands on top
abbrev pub with_reply : Option Value → machine.Config → machine.Config
with_reply None c = c
with_reply (Some value) c = push_on (datum_of value) c

abbrev pub phase_of : Phase → machine.Phase
phase_of (phase.Running config reply) = machine.Running (with_reply reply (config_of config))
phase_of (phase.Asking action config) = machine.Asking action (config_of config)
phase_of (phase.Finished action) = machine.Finished action

abbrev pub process_of : CodeProcess → ProcessState
process_of p = in_phase (phase_of p.phase) p.turns
