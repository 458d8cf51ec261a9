use Rattle.orca_answers.proofs.AnswerLemmas.{replayed_so}
use Rattle.orca_answers.proofs.replay.replay_history.Goals as goal

pub returns-clause-said : goal.returns-clause-said
returns-clause-said g c = λ policy words asked. replayed_so policy words _ _ _ _ _ _ _ _ _ asked c.replayed.ensures.said
