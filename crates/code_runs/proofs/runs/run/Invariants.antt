use Rattle.std.proofs.Common.{ℕ}
use Rattle.code_rules.specs.Machine as machine
use Rattle.emitted_code.specs.Views.{program_seen}
use Rattle.code_steps.specs.Bodies.{config_of}
use Rattle.code_runs.specs.Runs.{HaltsSo, HasRoomThroughout}
use Rattle.code_runs.proofs.runs.run.Given as goal

-- whatever a run comes to from here, it came to from where it began
abbrev pub invariant-steps : goal.invariant-steps
invariant-steps l = HasRoomThroughout (program_seen l.code) → (e : machine.Effect) (left' : ℕ) → HaltsSo (program_seen l.code) (config_of l.config) l.left e left' →
    HaltsSo (program_seen l.code) (config_of l.initial.config) l.initial.left e left'
