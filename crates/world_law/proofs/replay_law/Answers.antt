use Rattle.std.proofs.Common.{sym, subst}
use Rattle.world_law.proofs.Once.{Stays, is_once}
use Rattle.world_law.proofs.replay_law.Goals as goal

pub returns : goal.returns
returns g c = record {
  once = λ f same. is_once f (subst Stays (sym same) (g.met.P.Processor.settled c.args.machine.now));
}
