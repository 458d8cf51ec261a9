use Rattle.world_facts.proofs.TooManyCrashes.{too_many_crashes}
use Rattle.world_facts.proofs.too_many_crashes.Goals as goal

pub returns : goal.returns
returns c = too_many_crashes
