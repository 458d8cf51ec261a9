use Rattle.std.proofs.Common.{refl}
use Rattle.world_enough.proofs.OneCell.{runs_well}
use Rattle.world_enough.proofs.one_cell_is_bounded.Goals as goal

pub returns : goal.returns
returns c = record { faultless = runs_well; events = refl; packets = refl; works = refl; bound = refl; turns = refl; waits = refl; singles = refl }
