use Rattle.history_law.proofs.history_law.Goals as goal
use Rattle.history_law.proofs.Running.{histories_run}

pub returns : goal.returns
returns c = histories_run
