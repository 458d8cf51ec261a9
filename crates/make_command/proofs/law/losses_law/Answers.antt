use Rattle.std.proofs.Common.{arith}
use Rattle.make_command.proofs.LossTexts.{losses_said}
use Rattle.make_command.proofs.law.losses_law.Goals as goal

pub returns : goal.returns
returns c lost few = losses_said lost (omega (arith, few))
