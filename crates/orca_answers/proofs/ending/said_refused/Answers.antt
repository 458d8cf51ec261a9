use Rattle.command_files.specs.Stopped.{StoppedAt}
use Rattle.orca_answers.specs.Endings as because
use Rattle.orca_answers.specs.Programs.{program_line, program_status}
use Rattle.orca_answers.proofs.AnswerLemmas.{answer_of, ends_unfinished, program_apart, program_unfinished}
use Rattle.orca_answers.proofs.ending.said_refused.Goals as goal

pub print_ending-requires : goal.print_ending-requires
print_ending-requires g c = rw c.status.ensures (program_apart c.args.fault.now)

pub returns-clause-said : goal.returns-clause-said
returns-clause-said g c = λ policy words told before now old new files sources asked read has is.
    answer_of (λ l. l.items) c.line.result policy words told old new (StoppedAt before now old new) _ _ (program_status c.args.fault.now) _ (program_line c.args.fault.now) c.line.ensures (rw c.status.ensures at c.print_ending.ensures.printed) c.print_ending.ensures.silent (rw c.status.ensures at c.print_ending.ensures.status)
    (because.refused files sources c.args.fault.now asked read has is)

pub returns-clause-unfinished : goal.returns-clause-unfinished
returns-clause-unfinished g c = ends_unfinished _ _ (program_unfinished c.args.fault.now) (rw c.status.ensures at c.print_ending.ensures.status)
