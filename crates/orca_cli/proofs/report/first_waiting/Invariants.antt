use Rattle.std.proofs.Common.{◌≡◌, drop}
use Rattle.run_ends.specs.declared.ends.ProcessEnd.{ProcessEnd}
use Rattle.orca_cli.specs.Said.{first_of, first_waiting}
use Rattle.orca_cli.specs.Standings.{awaited_of}
use Rattle.orca_cli.proofs.report.first_waiting.Given as goal

-- of the processes from here on the lowest that waits is the lowest of all
abbrev pub invariant-ends : goal.invariant-ends
invariant-ends l = first_of (λ (end : ProcessEnd). awaited_of end.standing) l.number (drop l.number l.ends) ≡ first_waiting l.ends
