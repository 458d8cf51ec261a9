use Rattle.world_law.proofs.Ages.{processes_go_on}
use Rattle.world_law.proofs.processes_go_on.Goals as goal

pub returns : goal.returns
returns c = processes_go_on
