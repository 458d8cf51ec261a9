use Rattle.command_files.specs.Stopped.{StoppedAt}
use Rattle.orca_answers.specs.Endings as because
use Rattle.orca_answers.specs.Scripts.{script_fault_line, script_status}
use Rattle.orca_answers.proofs.AnswerLemmas.{answer_of, unreadable_status, unscripted_status}
use Rattle.orca_answers.proofs.ending.said_unscripted.Goals as goal

pub print_ending-requires : goal.print_ending-requires
print_ending-requires g c = rw c.status.ensures (unscripted_status c.args.fault)

pub returns-clause-said : goal.returns-clause-said
returns-clause-said g c = λ policy words told before now old new between files sources script asked read since named is.
    answer_of (λ l. l.items) c.line.result policy words told old new (StoppedAt before now old new) _ _ (script_status c.args.fault) _ (script_fault_line c.args.fault) c.line.ensures (rw c.status.ensures at c.print_ending.ensures.printed) c.print_ending.ensures.silent (rw c.status.ensures at c.print_ending.ensures.status)
    (because.unscripted files sources script c.args.fault between asked read since named is)

pub returns-clause-status : goal.returns-clause-status
returns-clause-status g c = λ failed. rw (c.status.ensures, unreadable_status c.args.fault failed) at c.print_ending.ensures.status
