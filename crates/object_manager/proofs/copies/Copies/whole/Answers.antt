use Rattle.std.proofs.Common.{subst}
use Rattle.object_manager.specs.Whole.{IsWhole}
use Rattle.object_manager.proofs.copies.Copies.whole.Goals as goal

pub returns : goal.returns
returns c = subst IsWhole c.self.view_is c.self.invariant
