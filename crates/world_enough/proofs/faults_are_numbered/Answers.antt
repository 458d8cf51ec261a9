use Rattle.world_enough.proofs.Numbered.{faults_numbered}
use Rattle.world_enough.proofs.faults_are_numbered.Goals as goal

pub returns : goal.returns
returns c = faults_numbered
