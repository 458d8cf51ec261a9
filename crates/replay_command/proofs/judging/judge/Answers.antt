use Rattle.command_files.specs.Stopped.{StoppedAt}
use Rattle.std.proofs.Common.{map}
use Rattle.link_rules.specs.Units.{source}
use Rattle.replay_command.proofs.Said.{judged_so}
use Rattle.replay_command.proofs.judging.judge.Goals as goal

pub returns-in-Ok-clause-said : goal.returns-in-Ok-clause-said
returns-in-Ok-clause-said g c = λ told before now old new history files sources read accepted.
    judged_so told (StoppedAt before now old new) history files sources c.args.text.now (map source c.args.checked.now.program.now.units.items) c.in-Ok.table _ _ _ read accepted c.requires.within c.in-Ok.ensures.are
    (rw (c.requires.performs, c.requires.computes) at c.say_answer.ensures.said)
