use Rattle.world_law.proofs.Turning.{steps_turn}
use Rattle.world_law.proofs.processes_stand_by_meaning.Goals as goal

pub returns : goal.returns
returns c = λ f. steps_turn f
