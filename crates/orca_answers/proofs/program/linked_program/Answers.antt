use Rattle.std.proofs.Common.{map}
use Rattle.orca_front.specs.Sources.{file_of}
use Rattle.orca_answers.proofs.AnswerLemmas.{link_fault_is}
use Rattle.orca_answers.proofs.program.linked_program.Goals as goal

pub returns-in-Err-Because-clause-refused : goal.returns-in-Err-Because-clause-refused
returns-in-Err-Because-clause-refused c = rw c.refuse.ensures (link_fault_is (map file_of c.args.files.now) c.in-Err-Because.cause (rw c.in-Err-Because.field-0-is at c.in-Err-Because.ensures.refused))
