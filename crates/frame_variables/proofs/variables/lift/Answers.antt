use Rattle.std.proofs.Common.{pos}
use Rattle.value_core.specs.Datum as datum
use Rattle.frame_variables.specs.Gives.{state_of, target_of}
use Rattle.frame_variables.proofs.Staying.{lifted_ordered}
use Rattle.frame_variables.proofs.variables.lift.Goals as goal

pub returns-clause-ordered : goal.returns-clause-ordered
returns-clause-ordered c h =
    lifted_ordered (target_of c.args.to.now) (datum.int (pos 0)) (state_of c.args.run.now) (state_of c.exchange.new.run) c.exchange.result h c.exchange.ensures.put
