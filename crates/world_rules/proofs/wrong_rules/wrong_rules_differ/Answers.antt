use Rattle.world_rules.proofs.wrong_rules.wrong_rules_differ.Goals as goal
use Rattle.world_rules.proofs.Wrong.{wrong_rules}

pub returns : goal.returns
returns c = wrong_rules
