use Rattle.std.proofs.Common.{◌≡◌, drop}
use Rattle.orca_cli.specs.Said.{first_of, first_spent}
use Rattle.orca_cli.specs.Standings.{spent_of}
use Rattle.orca_cli.proofs.report.first_spent.Given as goal

-- of the processes from here on the lowest that took so many turns is the lowest of all
abbrev pub invariant-ends : goal.invariant-ends
invariant-ends l = first_of (spent_of l.turns) l.number (drop l.number l.ends) ≡ first_spent l.turns l.ends
