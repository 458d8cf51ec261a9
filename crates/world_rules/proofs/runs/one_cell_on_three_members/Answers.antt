use Rattle.world_rules.proofs.runs.one_cell_on_three_members.Goals as goal
use Rattle.world_rules.proofs.OneCell.{one_cell_run}

pub returns : goal.returns
returns c = one_cell_run
