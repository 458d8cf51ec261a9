use Rattle.std.proofs.Common.{refl}
use Rattle.world_enough.proofs.OneOwner.{goes}
use Rattle.world_enough.proofs.one_owner_is_bounded.Goals as goal

pub returns : goal.returns
returns c = record { faultless = goes; events = refl; packets = refl; works = refl; bound = refl }
