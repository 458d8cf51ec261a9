use Rattle.run_law.proofs.Ticking.{ticks_apart}
use Rattle.run_law.proofs.ticks_are_apart.Goals as goal

pub returns : goal.returns
returns c = ticks_apart
