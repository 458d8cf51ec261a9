use Rattle.world_facts.proofs.Possible.{steps_may}
use Rattle.world_facts.proofs.steps_may.Goals as goal

pub returns : goal.returns
returns c = steps_may
