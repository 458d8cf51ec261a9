use Rattle.world_facts.proofs.WorkedEnds.{premises_met}
use Rattle.world_facts.proofs.premises_met.Goals as goal

pub returns : goal.returns
returns c = premises_met
