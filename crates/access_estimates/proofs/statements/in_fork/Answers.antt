use Rattle.std.proofs.Common.{refl}
use Rattle.access_estimates.specs.Seen.{all_seen}
use Rattle.access_estimates.proofs.Rest.{grows}
use Rattle.access_estimates.proofs.statements.in_fork.Goals as goal

pub returns : goal.returns
returns c =
    grows c.in_any.result (all_seen c.args.out.now.items) (all_seen c.in_arguments.new.out.items) _ _ _ _ (c.in_ok-in_arguments.ensures {u = tt}) refl c.in_any.ensures
