use Rattle.command_files.specs.Stopped.{StoppedAt}
use Rattle.replay_command.specs.Endings as because
use Rattle.replay_command.proofs.Said.{answer_of}
use Rattle.replay_command.proofs.refusing.say_limited.Goals as goal

pub returns-clause-said : goal.returns-clause-said
returns-clause-said g c = λ told before now old new history files sources text units read accepted passes.
    answer_of (λ l. l.items) c.passed_line.result told (StoppedAt before now old new) history files _ _ 11 _ (because.passed_line c.args.passed) c.passed_line.ensures c.print_ending.ensures.printed c.print_ending.ensures.silent c.print_ending.ensures.status (because.limited sources text units c.args.passed read accepted passes)
