use Rattle.node_rules.proofs.Walking.{parts_walk}
use Rattle.node_rules.proofs.Ending.{catching_up_ends}
use Rattle.node_rules.proofs.laws.walking_law.Goals as goal

pub returns : goal.returns
returns c = record { walks = parts_walk; ends = catching_up_ends }
