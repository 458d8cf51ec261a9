use Rattle.std.proofs.Common.{arith, ◌-◌}
use Rattle.code_runs.specs.Runs.{steps}
use Rattle.code_runs.proofs.Halting.{turn_more}
use Rattle.code_runs.proofs.runs.halts.Goals as goal

pub returns-else-left-le1-clause-goes : goal.returns-else-left-le1-clause-goes
returns-else-left-le1-clause-goes c = λ more code c' d e left' is rest.
    let turned = rw c.in-Turns.is at is in
    turn_more code c' d e c.args.left.now left' (c.args.left.now - 1) (omega arith) (omega arith) turned rest

pub returns-in-Steps-clause-goes : goal.returns-in-Steps-clause-goes
returns-in-Steps-clause-goes c = λ more code c' d e left' is rest.
    let stepped = rw c.in-Steps.is at is in
    steps stepped rest
