use Rattle.history_commands.proofs.Answering.{answer_apart, said_of}
use Rattle.history_commands.proofs.answer.say_answer.Goals as goal

pub print_ending-requires : goal.print_ending-requires
print_ending-requires g c = rw c.status.ensures (answer_apart c.in-Ok.answer)

pub returns-in-Ok-clause-said : goal.returns-in-Ok-clause-said
returns-in-Ok-clause-said g c =
    let answer = c.in-Ok.answer in
    said_of (λ l. l.items) c.line.result _ _ _ _ _ _ answer _ c.in-Ok.ensures c.line.ensures (rw c.status.ensures at c.print_ending.ensures.printed) c.print_ending.ensures.silent (rw c.status.ensures at c.print_ending.ensures.status)
