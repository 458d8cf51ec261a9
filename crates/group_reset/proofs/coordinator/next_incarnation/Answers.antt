use Rattle.group_reset.proofs.Coordinating.{next_round}
use Rattle.group_reset.proofs.coordinator.next_incarnation.Goals as goal

pub returns : goal.returns
returns c = next_round c.args.promised c.args.nodes c.args.me c.requires.me
