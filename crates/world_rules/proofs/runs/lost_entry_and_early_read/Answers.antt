use Rattle.world_rules.proofs.runs.lost_entry_and_early_read.Goals as goal
use Rattle.world_rules.proofs.LostEntry.{lost_entry_run}

pub returns : goal.returns
returns c = lost_entry_run
