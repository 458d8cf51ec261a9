use Rattle.world_facts.proofs.Counted.{all_counted, step_leaves}
use Rattle.world_facts.proofs.worlds_count.Goals as goal

pub returns : goal.returns
returns c = record { counted = all_counted; leaves = step_leaves }
