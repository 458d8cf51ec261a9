use Rattle.world_law.proofs.TrueAnswers.{all_answers}
use Rattle.world_law.proofs.answers_are_true.Goals as goal

pub returns : goal.returns
returns c = all_answers
