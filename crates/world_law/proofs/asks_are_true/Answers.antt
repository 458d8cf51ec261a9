use Rattle.world_law.proofs.Asking.{all_asks}
use Rattle.world_law.proofs.asks_are_true.Goals as goal

pub returns : goal.returns
returns c = all_asks
