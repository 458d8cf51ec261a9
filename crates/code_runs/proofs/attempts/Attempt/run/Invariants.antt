use Rattle.std.proofs.Common.{◌≤◌, ◌+◌}
use Rattle.orca_base.specs.declared.limits.TheConstants.{OPERATION_TURNS}
use Rattle.emitted_code.specs.Views.{program_seen}
use Rattle.code_steps.specs.Bodies.{config_of}
use Rattle.code_runs.specs.Attempts.{attempt_seen}
use Rattle.code_runs.specs.Runs.{HasRoomThroughout}
use Rattle.code_runs.proofs.Halting.{TriesOn}
use Rattle.code_runs.proofs.attempts.Attempt.run.Given as goal

abbrev pub invariant-guards : goal.invariant-guards
invariant-guards l = record {
  low : l.guard ≤ 65535 + l._guard;
  on : HasRoomThroughout (program_seen l.code) → TriesOn (program_seen l.code) (attempt_seen l.self) l.fn.first l.guard (config_of l.config) (OPERATION_TURNS + 1);
}
