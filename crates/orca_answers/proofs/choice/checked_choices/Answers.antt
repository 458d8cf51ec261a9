use Rattle.std.proofs.Common.{inl, refl}
use Rattle.orca_answers.proofs.AnswerLemmas.{begun_none}
use Rattle.orca_answers.proofs.choice.checked_choices.Goals as goal

pub within_choices-requires : goal.within_choices-requires
within_choices-requires g c = record { within = c.in-Ok.ensures.within }

pub returns-in-Ok-clause-refused : goal.returns-in-Ok-clause-refused
returns-in-Ok-clause-refused g c = λ told accepted. c.within_choices.ensures.refused told

pub returns-in-Err-clause-unasked : goal.returns-in-Err-clause-unasked
returns-in-Err-clause-unasked g c = begun_none _ c.in-Err.refusal _ refl

pub returns-in-Err-clause-first : goal.returns-in-Err-clause-first
returns-in-Err-clause-first g c = inl refl
