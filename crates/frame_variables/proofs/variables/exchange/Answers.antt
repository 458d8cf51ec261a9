use Rattle.std.proofs.Common.{refl}
use Rattle.frame_variables.specs.Gives.{state_of}
use Rattle.frame_variables.proofs.variables.exchange.Goals as goal

pub returns-clause-put : goal.returns-clause-put
returns-clause-put c = c.exchange.ensures (state_of c.args.run.now) refl
