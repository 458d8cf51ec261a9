use Rattle.world_facts.proofs.Homes.{all_begin, homes}
use Rattle.world_facts.proofs.Processes.{all_stand}
use Rattle.world_facts.proofs.processes_stand.Goals as goal

pub returns : goal.returns
returns c = record { homes = homes; begins = all_begin; stands = all_stand }
