use Rattle.orca_answers.proofs.program.typed.Goals as goal

pub returns-in-Err-Because-clause-refused : goal.returns-in-Err-Because-clause-refused
returns-in-Err-Because-clause-refused c = λ files are. rw c.refuse.ensures ((rw c.in-Err-Because.field-0-is at c.in-Err-Because.ensures.refused) files are)
