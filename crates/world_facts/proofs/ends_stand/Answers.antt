use Rattle.world_facts.proofs.Ends.{ends_stand, finished_end}
use Rattle.world_facts.proofs.WorkedEnds.{worked_ends}
use Rattle.world_facts.proofs.ends_stand.Goals as goal

pub returns : goal.returns
returns c = record { all = ends_stand; finished = finished_end; worked = worked_ends }
