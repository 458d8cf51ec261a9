use Rattle.world_idle.proofs.Counted.{counted}
use Rattle.world_idle.proofs.idle_ticks_are_counted.Goals as goal

pub returns : goal.returns
returns c = counted
