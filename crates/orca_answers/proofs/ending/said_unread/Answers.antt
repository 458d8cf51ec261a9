use Rattle.command_files.specs.Stopped.{StoppedAt}
use Rattle.orca_answers.specs.Endings as because
use Rattle.command_files.specs.Loaded.{load_line, load_status}
use Rattle.command_files.proofs.ReadFiles.{failed_status, unread_status}
use Rattle.orca_answers.proofs.AnswerLemmas.{answer_of, ends_unfinished, unread_unfinished}
use Rattle.orca_answers.proofs.ending.said_unread.Goals as goal

pub print_ending-requires : goal.print_ending-requires
print_ending-requires g c = rw c.status.ensures (unread_status c.args.fault)

pub returns-clause-said : goal.returns-clause-said
returns-clause-said g c = λ policy words told before now old new files asked is.
    answer_of (λ l. l.items) c.line.result policy words told old new (StoppedAt before now old new) _ _ (load_status c.args.fault) _ (load_line c.args.fault) c.line.ensures (rw c.status.ensures at c.print_ending.ensures.printed) c.print_ending.ensures.silent (rw c.status.ensures at c.print_ending.ensures.status)
    (because.unread files c.args.fault asked is)

pub returns-clause-unfinished : goal.returns-clause-unfinished
returns-clause-unfinished g c = ends_unfinished _ _ (unread_unfinished c.args.fault) (rw c.status.ensures at c.print_ending.ensures.status)

pub returns-clause-status : goal.returns-clause-status
returns-clause-status g c = λ failed. rw (c.status.ensures, failed_status c.args.fault failed) at c.print_ending.ensures.status
