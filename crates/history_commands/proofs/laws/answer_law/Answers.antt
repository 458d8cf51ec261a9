use Rattle.history_commands.proofs.Answering.{one_answer, printable, reads_back}
use Rattle.history_commands.proofs.laws.answer_law.Goals as goal

pub returns-clause-back : goal.returns-clause-back
returns-clause-back c = λ p q names lines are legal. reads_back p q names lines are legal

pub returns-clause-once : goal.returns-clause-once
returns-clause-once c = λ p q names text one two tables is are. one_answer p q names text one two tables is are

pub returns-clause-printable : goal.returns-clause-printable
returns-clause-printable c = λ names lines sound named. printable names lines sound named
