use Rattle.world_law.proofs.Climbing.{places_rise}
use Rattle.world_law.proofs.places_never_fall.Goals as goal

pub returns : goal.returns
returns c = λ f steps w v step leads next places reach. places_rise f steps w v step leads next places reach
