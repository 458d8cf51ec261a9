use Rattle.orca_answers.proofs.AnswerLemmas.{on_any}
use Rattle.orca_answers.proofs.program.judged.Goals as goal

pub returns-in-Ok-clause-accepted : goal.returns-in-Ok-clause-accepted
returns-in-Ok-clause-accepted c = λ files are. on_any c.fits.result _ (c.in-Ok.ensures.accepted files are)

pub returns-in-Ok-clause-refused : goal.returns-in-Ok-clause-refused
returns-in-Ok-clause-refused c = λ files are. c.fits.ensures.refused files (c.in-Ok.ensures.accepted files are)
