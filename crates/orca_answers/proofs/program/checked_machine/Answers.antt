use Rattle.program_bodies.specs.Codes.{sources}
use Rattle.orca_answers.proofs.program.checked_machine.Goals as goal

pub returns-in-Err-Because-clause-refused : goal.returns-in-Err-Because-clause-refused
returns-in-Err-Because-clause-refused c = λ files accepted.
    rw c.refuse.ensures (sources c.args.checked, accepted, rw c.in-Err-Because.field-0-is at c.in-Err-Because.ensures.passed)
