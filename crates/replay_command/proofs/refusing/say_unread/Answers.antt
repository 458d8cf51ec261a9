use Rattle.command_files.specs.Stopped.{StoppedAt}
use Rattle.command_files.proofs.ReadFiles.{replay_apart, replay_failed}
use Rattle.command_files.specs.Replays.{replay_line, replay_status}
use Rattle.replay_command.specs.Endings as because
use Rattle.replay_command.proofs.Said.{answer_of}
use Rattle.replay_command.proofs.refusing.say_unread.Goals as goal

pub print_ending-requires : goal.print_ending-requires
print_ending-requires g c = rw c.status.ensures (replay_apart c.args.fault)

pub returns-clause-said : goal.returns-clause-said
returns-clause-said g c = λ told before now old new history files is.
    answer_of (λ l. l.items) c.line.result told (StoppedAt before now old new) history files _ _ (replay_status c.args.fault) _ (replay_line c.args.fault) c.line.ensures (rw c.status.ensures at c.print_ending.ensures.printed) c.print_ending.ensures.silent (rw c.status.ensures at c.print_ending.ensures.status) (because.unread c.args.fault is)

pub returns-clause-status : goal.returns-clause-status
returns-clause-status g c = λ failed. rw (c.status.ensures, replay_failed c.args.fault failed) at c.print_ending.ensures.status
