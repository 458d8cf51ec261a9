use Rattle.std.proofs.Common.{inr}
use Rattle.orca_answers.proofs.choice.within_choices.Goals as goal

pub returns-in-Ok-clause-chosen : goal.returns-in-Ok-clause-chosen
returns-in-Ok-clause-chosen g c = record { within = c.requires.within; lines = c.in-Ok.ensures.lines; asked = c.in-Ok.ensures.told }

pub returns-in-Err-clause-first : goal.returns-in-Err-clause-first
returns-in-Err-clause-first g c = inr (c.requires.within, c.in-Err.ensures.first)
