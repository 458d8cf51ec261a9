use Rattle.std.proofs.Common.{length}
use Rattle.code_steps.proofs.arguments.+take_before.Given as goal

abbrev pub decreases-take_before : goal.decreases-take_before
decreases-take_before l = length l.shapes.now
