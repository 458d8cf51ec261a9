use Rattle.command_files.specs.Stopped.{StoppedAt}
use Rattle.orca_front.specs.Lines.{fault_line}
use Rattle.command_files.proofs.ReadFiles.{refused_status}
use Rattle.command_files.specs.Loaded.{front_status}
use Rattle.replay_command.specs.Endings as because
use Rattle.replay_command.proofs.Said.{answer_of}
use Rattle.replay_command.proofs.refusing.say_refused.Goals as goal

pub print_ending-requires : goal.print_ending-requires
print_ending-requires g c = rw c.front_status.ensures (refused_status c.args.fault.now)

pub returns-clause-said : goal.returns-clause-said
returns-clause-said g c = λ told before now old new history files sources text read is.
    answer_of (λ l. l.items) c.fault_line.result told (StoppedAt before now old new) history files _ _ (front_status c.args.fault.now) _ (fault_line c.args.fault.now) c.fault_line.ensures (rw c.front_status.ensures at c.print_ending.ensures.printed) c.print_ending.ensures.silent (rw c.front_status.ensures at c.print_ending.ensures.status) (because.refused sources text c.args.fault.now read is)
