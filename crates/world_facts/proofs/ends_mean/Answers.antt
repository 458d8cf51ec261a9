use Rattle.world_facts.proofs.Meaning.{ends_mean}
use Rattle.world_facts.proofs.ends_mean.Goals as goal

pub returns : goal.returns
returns g c = ends_mean _ (g.met.P.Processor.settled c.args.machine.now)
