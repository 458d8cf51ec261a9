use Rattle.world_facts.proofs.Passing.{is_test}
use Rattle.world_facts.proofs.fates_pass.Goals as goal

pub returns : goal.returns
returns c = is_test
